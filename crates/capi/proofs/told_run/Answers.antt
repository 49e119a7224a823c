use mathlib.Core.Path.{◌≡◌, ap, ◌∙◌}
use lib.ListN.{length}
use Rattle.capi.specs.Calls.{handed_back}
use Rattle.capi.proofs.Calls.{laid_length, back_next, back_last, run_told}
use Rattle.capi.proofs.told_run.Goals as goal
use Rattle.capi.proofs.told_run.Goals.{in-Some, in-None}

pub shape_of-rec : goal.shape_of-rec
shape_of-rec c = elim c.match-next_of.branch [
  | in-Some w ↦ ap length (w.rec-is ∙ w.lay.ensures) ∙ laid_length _ _
  | in-None w ↦ ap length (w.rec-is ∙ w.lay_finished.ensures) ∙ laid_length _ _
]

pub returns : goal.returns
returns c =
    let b : c.match-next_of.rec ≡ handed_back c.args.answer c.args.rec.now = elim c.match-next_of.branch [
      | in-Some w ↦ back_next c.args.answer _ c.next_of.ensures w.in-Some.is (w.rec-is ∙ w.lay.ensures)
      | in-None w ↦ back_last c.args.answer _ c.next_of.ensures w.in-None.is (w.rec-is ∙ w.lay_finished.ensures)
    ] in
    run_told c.args.answer c.number_of.ensures c.frame_of.ensures b
