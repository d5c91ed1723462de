-- `places::search_columns` meets its contract: the columns are lent to the search, and as many places are owed as it filled.
-- Assumes nothing.
use Rattle.std.specs.Prelude.{◌≡◌, refl, length}
use Rattle.poses.specs.Methods.{method_number}
use Rattle.places.proofs.Owing.{columned}
use Rattle.places.proofs.search_columns.Goals as goal

pub returns : goal.returns
returns c =
    let a = c.args in
    let picks_long : length a.columns.now.picks ≡ 1024 = search in
    let lows_long : length a.columns.now.lows ≡ 1024 = search in
    let highs_long : length a.columns.now.highs ≡ 1024 = search in
    columned (method_number a.method) a.set.lists a.set.poses a.query.rule a.query.count a.rows a.query.weights.now
    a.set.items.now a.set.scores.now a.tally.now a.work.now a.columns.now.picks a.columns.now.lows a.columns.now.highs _ _ _ _ _ _
    picks_long lows_long highs_long c.search_within.ensures _ refl
