use Rattle.std.proofs.Common.{◌≡◌, take}
use Rattle.std.specs.Prelude.{Some}
use Rattle.std.specs.List.{AllZip}
use Rattle.script_scopes.specs.Declarations.{key_property}
use Rattle.qvtr_types.proofs.keys.key_props.Given as goal

-- the names so far have properties
abbrev pub invariant-loop-name : goal.invariant-loop-name
invariant-loop-name l = AllZip (λ name prop. key_property l.env l.class name.text ≡ Some prop.0) (take l.name-index l.names) l.props
