-- One name for all definitions of a search: `unfolding searches_opened` opens every one of them, so that antt computes an answer.
-- Assumes nothing.
use Rattle.model.specs.Words.{first, some_below, every_below, count, row, table, over, last_of}
use Rattle.model.specs.Given.{item, score, place, join_two, join, joined, overall, total}
use Rattle.model.specs.Accesses.{randoms, lookup, row_ta, rows_ta, times, visited, met, best, next, round, rounds, row_nra, rows_nra, made, tally}
use Rattle.model.specs.Searches.{ahead, insert, ranked, order, kept, stops, rows, threshold, by_score, TA, BPA, BPA2, read_or, low_nra, high_nra, among, NRA}
use Rattle.model.specs.Refusals.{pair, weight_of, poses_of, query_of, wrong_size, wrong_k, wrong_rule, wrong_weights, short, no_lists, no_room, not_item, stood_earlier, rises, standing, fault, first_refusal, in_list, in_lists, search_shape, search_verdict, check_shape, check_verdict}
use Rattle.model.specs.Answers.{found_after, found, places, answering, search_of, answer, written, work_checked, work_after, slices_with, slices, checked, checked_work}

unfoldable pub searches_opened : Unit {0}
unfolding first some_below every_below count row table over last_of item score place join_two join joined overall total randoms lookup row_ta rows_ta times
    visited met best next round rounds row_nra rows_nra made tally ahead insert ranked order kept stops rows threshold by_score TA BPA BPA2 read_or low_nra
    high_nra among NRA pair weight_of poses_of query_of wrong_size wrong_k wrong_rule wrong_weights short no_lists no_room not_item stood_earlier rises standing
    fault first_refusal in_list in_lists search_shape search_verdict check_shape check_verdict found_after found places answering search_of answer written
    work_checked work_after slices_with slices checked checked_work
searches_opened = tt
