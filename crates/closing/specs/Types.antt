-- The types of the crates below, under one name.
pub use Rattle.rules.specs.declared.Fault.{Fault}
pub use Rattle.rules.specs.declared.Answer.{Answer}
pub use Rattle.places.specs.declared.Shape.{Shape}
