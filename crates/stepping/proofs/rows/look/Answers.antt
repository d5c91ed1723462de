-- `stepping::rows::look` meets its contract: a list that is read to its end is passed over, in any other the item at the next
-- position is met.
-- Assumes nothing.
use mathlib.Core.Path.{refl, sym, ◌∙◌}
use Prim.Native.Nat.{◌<◌}
use native.Mathlib.Omega.{arith}
use Rattle.model.specs.Given.{item}
use Rattle.model.specs.Accesses.{direct}
use Rattle.poses.specs.Sets.{set_of}
use Rattle.stepping.specs.Steps.{goes_none, goes_to}
use Rattle.stepping.proofs.Turning.{next_over, next_look}
use Rattle.stepping.proofs.rows.look.Goals as goal

pub returns-then-b-reading-clause-turns : goal.returns-then-b-reading-clause-turns
returns-then-b-reading-clause-turns c =
    let s = set_of c.args.reading.set in
    record { turns = λ tr v w whole e. goes_to (sym (next_over s tr c.args.i (sym e ∙ c.if-b-reading.true))) (goes_none tr) }

pub returns-clause-turns : goal.returns-clause-turns
unfolding item
returns-clause-turns c =
    let s = set_of c.args.reading.set in
    let inside : c.args.b < s.n = omega (arith, c.requires.at_most, c.if-b-reading.false) in
    let i = c.args.i in
    record {
      turns = λ tr v w whole e.
          let more = c.meet.ensures.meets.looks_up s.items tr direct i c.args.b v w whole c.requires.list_within inside refl in
          goes_to (sym (rw e (next_look s tr i (λ full. c.if-b-reading.false (e ∙ full))))) more;
    }
