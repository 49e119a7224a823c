-- The types of the crates below, under one name.
pub use Rattle.rules.specs.declared.Fault.{Fault}
pub use Rattle.rules.specs.declared.Opening.{Opening}
pub use Rattle.rules.specs.declared.Record.{Record}
pub use Rattle.rules.specs.declared.Answer.{Answer}
pub use Rattle.entries.specs.declared.Size.{Size}
pub use Rattle.entries.specs.declared.Zoned.{Zoned}
pub use Rattle.places.specs.declared.Shape.{Shape}
