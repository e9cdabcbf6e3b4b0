use Rattle.std.proofs.Common.{◌≡◌, ◌≤◌, length, arith, rules, ap, ◌∙◌, sym}
use Rattle.std.proofs.lemmas.List.{length-map}
use Rattle.mof_metamodel.specs.Metamodels.{prop_count}
use Rattle.mof_metamodel.specs.Tables.{placed}
use Rattle.mof_metamodel.proofs.TableLemmas.{prop_total, props_fit}
use Rattle.mof_metamodel.proofs.named.Named.prop_count.Goals as goal

pub overflow_cast-result : goal.overflow_cast-result
overflow_cast-result c =
    let count : length c.self.inside.places.items ≡ prop_count c.self.inside.desc =
    sym (length-map c.self.inside.places.items (placed c.self.inside.desc)) ∙ ap length c.self.invariant.places_are in
    let few : prop_count c.self.inside.desc ≤ 65536 = omega (arith, prop_total c.self.inside.desc, props_fit c.self.inside.desc c.self.invariant.limits) in
    search (arith, rules, count, few)
