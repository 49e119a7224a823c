-- The types that src/ declares, and those of the crates below, under one name.
pub use Rattle.rules.specs.declared.Record.{Record}
pub use Rattle.rules.specs.declared.Answer.{Answer}
pub use Rattle.records.specs.declared.Words.{Words}
pub use Rattle.capi.specs.declared.Answered.{Answered}
pub use Rattle.capi.specs.declared.Ran.{Ran}
