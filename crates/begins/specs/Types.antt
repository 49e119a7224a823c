-- The types that src/ declares, and those of the crates below, under one name.
pub use Rattle.rules.specs.declared.Frame.{Frame}
pub use Rattle.rules.specs.declared.Run.{Run}
pub use Rattle.rules.specs.declared.Order.{Order}
pub use Rattle.rules.specs.declared.Giving.{Giving}
pub use Rattle.rules.specs.declared.Record.{Record}
pub use Rattle.rules.specs.declared.Answer.{Answer}
pub use Rattle.places.specs.declared.Shape.{Shape}
pub use Rattle.rules.specs.declared.Block.{Block}
pub use Rattle.rules.specs.declared.Taking.{Taking}
pub use Rattle.begins.specs.declared.Getting.{Getting}
pub use Rattle.begins.specs.declared.Putting.{Putting}
