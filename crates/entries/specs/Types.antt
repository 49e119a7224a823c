-- The types that src/ declares, and those of the rules, under one name.
pub use Rattle.rules.specs.declared.Tree.{Tree}
pub use Rattle.rules.specs.declared.Header.{Header}
pub use Rattle.rules.specs.declared.TreeEntry.{TreeEntry}
pub use Rattle.rules.specs.declared.Pass.{Pass}
pub use Rattle.rules.specs.declared.Fault.{Fault}
pub use Rattle.rules.specs.declared.Answer.{Answer}
pub use Rattle.entries.specs.declared.Size.{Size}
pub use Rattle.entries.specs.declared.Zoned.{Zoned}
pub use Rattle.entries.specs.declared.HeaderFields.{HeaderFields}
pub use Rattle.entries.specs.declared.TreeFields.{TreeFields}
