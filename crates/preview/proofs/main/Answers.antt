-- `preview::main` ends: the bytes that were read lie within the first array, each array has the length that `preview` asks for,
-- and the text lies within the last.
-- Assumes nothing.
use mathlib.Core.Path.{sym}
use lib.Seq.{length-take-le}
use Rattle.previewing.specs.Settled.{preview_within}
use Rattle.preview.proofs.main.Goals as goal

pub slice_bounds-out-end : goal.slice_bounds-out-end
slice_bounds-out-end c = preview_within c.preview-end.ensures.text

pub slice_bounds-write_all-end : goal.slice_bounds-write_all-end
slice_bounds-write_all-end c =
    sym (length-take-le _ _
    (preview_within c.preview-end.ensures.text))
