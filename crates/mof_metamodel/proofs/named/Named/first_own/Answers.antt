use Rattle.std.proofs.Common.{◌≡◌, ◌<◌, ◌≤◌, ◌+◌, length, arith, rules, ap, ◌∙◌, subst}
use Rattle.mof_metamodel.specs.declared.desc.MetaDesc.{MetaDesc}
use Rattle.mof_metamodel.specs.Metamodels.{class_count, class_at, first_own}
use Rattle.mof_metamodel.proofs.TableLemmas.{entry_count, entry_is, props_fit_of}
use Rattle.mof_metamodel.proofs.named.Named.first_own.Goals as goal

pub index-requires : goal.index-requires
index-requires c =
    let within : c.args.c < class_count c.self.inside.desc = rw c.self.view_is c.requires in
    let rows : length c.self.inside.firsts.items ≡ class_count c.self.inside.desc = entry_count _ _ _ c.self.invariant.firsts_are in
    search (rules, within, rows)

pub returns-clause-number : goal.returns-clause-number
returns-clause-number c =
    let within : c.args.c < class_count c.self.inside.desc = rw c.self.view_is c.requires in
    entry_is _ _ _ c.self.invariant.firsts_are c.args.c c.index.result.now within c.index.ensures ∙ ap (λ d. first_own d c.args.c) c.self.view_is

pub returns-clause-fits : goal.returns-clause-fits
returns-clause-fits c =
    let within : c.args.c < class_count c.self.inside.desc = rw c.self.view_is c.requires in
    let is : c.index.result.now ≡ first_own c.args.self.now c.args.c =
    entry_is _ _ _ c.self.invariant.firsts_are c.args.c c.index.result.now within c.index.ensures ∙ ap (λ d. first_own d c.args.c) c.self.view_is in
    let P : MetaDesc → Type 0 = λ d. first_own d c.args.c + length (class_at d c.args.c).props ≤ 65536 in
    let few = subst P c.self.view_is (props_fit_of c.self.inside.desc c.args.c c.self.invariant.limits within) in
    omega (arith, is, few)
