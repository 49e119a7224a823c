-- The types of the crates below, under one name.
pub use Rattle.rules.specs.declared.Frame.{Frame}
pub use Rattle.rules.specs.declared.Tree.{Tree}
pub use Rattle.rules.specs.declared.Run.{Run}
pub use Rattle.rules.specs.declared.Order.{Order}
pub use Rattle.rules.specs.declared.Block.{Block}
pub use Rattle.rules.specs.declared.Pass.{Pass}
pub use Rattle.rules.specs.declared.Place.{Place}
pub use Rattle.rules.specs.declared.Taking.{Taking}
pub use Rattle.rules.specs.declared.Record.{Record}
pub use Rattle.rules.specs.declared.Answer.{Answer}
pub use Rattle.rules.specs.declared.Took.{Took}
pub use Rattle.rules.specs.declared.Fault.{Fault}
pub use Rattle.places.specs.declared.Shape.{Shape}
pub use Rattle.calls.specs.declared.Way.{Way}
pub use Rattle.get_runs.specs.declared.At.{At}
pub use Rattle.get_runs.specs.declared.Left.{Left}
