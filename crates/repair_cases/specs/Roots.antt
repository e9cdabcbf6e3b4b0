-- The root of a primitive domain has a value.
use Rattle.std.specs.Prelude.{◌≡◌, None}
use Rattle.qv_syntax.specs.declared.program.Dom.{Dom}
use Rattle.qvtr_semantics.specs.Templates.{Values}
use Rattle.template_match.specs.Posed.{HasValue}

-- if the domain is primitive, its root has a value
abbrev pub IsGiven : Values → Dom → Type 0
IsGiven roots dom = dom.model ≡ None → HasValue roots dom.root
