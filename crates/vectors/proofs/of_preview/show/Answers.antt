-- `vectors::of_preview::show` is safe: each array has the length that `preview` asks for, and the text lies within
-- the last.
-- Assumes nothing.
use Rattle.std.proofs.Common.{sym, length-take-le}
use Rattle.previewing.specs.Settled.{preview_within}
use Rattle.vectors.proofs.of_preview.show.Goals as goal

pub slice_bounds-out-end : goal.slice_bounds-out-end
slice_bounds-out-end c = preview_within c.preview-end.ensures.text

pub slice_bounds-text-end : goal.slice_bounds-text-end
slice_bounds-text-end c = sym (length-take-le c.preview-end.result c.preview-end.new.out (preview_within c.preview-end.ensures.text))
