-- The types that src/ declares, and those of the crates below, under one name.
pub use Rattle.rules.specs.declared.Order.{Order}
pub use Rattle.rules.specs.declared.Taking.{Taking}
pub use Rattle.rules.specs.declared.Record.{Record}
pub use Rattle.rules.specs.declared.Answer.{Answer}
pub use Rattle.entries.specs.declared.Size.{Size}
pub use Rattle.entries.specs.declared.Zoned.{Zoned}
pub use Rattle.places.specs.declared.Shape.{Shape}
pub use Rattle.calls.specs.declared.Ended.{Ended}
pub use Rattle.calls.specs.declared.Way.{Way}
