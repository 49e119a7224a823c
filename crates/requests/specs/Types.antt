-- The types that src/ declares, under one name.
pub use Rattle.requests.specs.declared.Kind.{Kind}
pub use Rattle.requests.specs.declared.Number.{Number}
pub use Rattle.requests.specs.declared.Had.{Had}
pub use Rattle.requests.specs.declared.Reading.{Reading}
pub use Rattle.requests.specs.declared.Line.{Line}
pub use Rattle.requests.specs.declared.Malformed.{Malformed}
pub use Rattle.requests.specs.declared.Read.{Read}
pub use Rattle.requests.specs.declared.Scanned.{Scanned}
