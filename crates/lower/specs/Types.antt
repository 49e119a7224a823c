-- The types that src/ declares, and those of the rules, under one name.
pub use Rattle.rules.specs.declared.Frame.{Frame}
pub use Rattle.rules.specs.declared.Run.{Run}
pub use Rattle.rules.specs.declared.ChildEntry.{ChildEntry}
pub use Rattle.rules.specs.declared.Took.{Took}
pub use Rattle.rules.specs.declared.Fault.{Fault}
pub use Rattle.lower.specs.declared.Fields.{Fields}
