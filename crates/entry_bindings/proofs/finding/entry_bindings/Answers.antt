use Rattle.std.proofs.Common.{◌≡◌, ◌∙◌, List, sym, ap, subst, length, map}
use Rattle.std.specs.Prelude.{◌↔◌, ◌≢◌, slice_index_or, Contains, AllPairs, Some}
use Rattle.std.proofs.lemmas.Option.{get_or_from_slice_get, same_Some}
use Rattle.std.proofs.lemmas.Result.{IfOk-weaker}
use Rattle.qv_syntax.specs.declared.program.Rel.{Rel}
use Rattle.qvtr_semantics.specs.Templates.{Values}
use Rattle.template_match.specs.Posed.{HasPrimitives}
use Rattle.template_match.specs.Search.{values_of}
use Rattle.template_match.specs.Sources.{SourceWithoutTarget}
use Rattle.term_table.specs.TermTables.{values_in}
use Rattle.entry_bindings.specs.Matches.{names_in}
use Rattle.entry_bindings.specs.Starts.{NumberedValues}
use Rattle.entry_bindings.specs.Joins.{all_joined}
use Rattle.entry_bindings.specs.Asked.{AreFound, IsEntryBinding}
use Rattle.entry_bindings.proofs.PairLaws.{later_from_pairs}
use Rattle.entry_bindings.proofs.StartLaws.{fixed_places, fixed_primitives, names_no_target}
use Rattle.entry_bindings.proofs.WholeLaws.{exact, each_once}
use Rattle.entry_bindings.proofs.WithinLaws.{all_within}
use Rattle.entry_bindings.proofs.finding.entry_bindings.Goals as goal

pub source_bindings-requires-clause-meant : goal.source_bindings-requires-clause-meant
source_bindings-requires-clause-meant c = c.requires.planned.2.formed.relations

pub source_bindings-requires-clause-planned : goal.source_bindings-requires-clause-planned
source_bindings-requires-clause-planned c =
    let p = c.requires.planned in
    let is = sym c.in_ok-fixed.ensures in
    let program = c.args.program.now in
    let models = c.args.models.now in
    let terms = c.args.table.now in
    let ms = c.args.matches.now in
    let roots = c.args.roots.now in (
      p.0,
      p.1,
      subst (λ (b : Values). length b ≡ length p.0.vars) is (fixed_places program models p.0 terms ms roots p.2 p.3),
      subst (HasPrimitives p.0) is (fixed_primitives program models p.0 terms ms roots p.2 p.3 p.4),
      names_no_target program models p.0 terms ms roots p.2 p.3,
    )

pub returns-clause-exact : goal.returns-clause-exact
returns-clause-exact c =
    let p = c.requires.planned in
    let program = c.args.program.now in
    let models = c.args.models.now in
    let terms = c.args.table.now in
    let ms = c.args.matches.now in
    let roots = c.args.roots.now in
    let rel = c.index-as_slice-plan.result in
    let number = c.args.plan.now.rel in
    let here : rel ≡ p.0 = c.index-as_slice-plan.is ∙ ap (λ rels. slice_index_or rels number rel) c.as_slice.ensures ∙ get_or_from_slice_get program.rels number p.0 rel p.1.found in
    let found : AreFound program models p.0 roots (values_of c.in_ok-found.found)
    = subst (λ (fixed : Values). (b : Values) → Contains (values_of c.in_ok-found.found) b ↔ SourceWithoutTarget program models p.0 fixed b) c.in_ok-fixed.ensures (c.in_ok-found.ensures.exact p.0 p.1) in
    IfOk-weaker c.all_joined.result _ _
    (λ bs h of at b.
    let same : p.0 ≡ of = same_Some p.0 of (sym p.1.found ∙ at) in
    let is : bs ≡ all_joined program models ms p.0 roots (values_of c.in_ok-found.found)
    = h ∙ ap (λ ds. all_joined program models ms rel roots (values_of ds)) c.as_slice-2.ensures ∙ ap (λ (r : Rel). all_joined program models ms r roots (values_of c.in_ok-found.found)) here in
    let all = exact program models p.0 terms ms roots p.2 p.3 c.len-terms.ensures.distinct c.requires.numbers c.requires.names (values_of c.in_ok-found.found) found b in
    subst (λ (r : Rel). Contains (map (values_in terms) bs) b ↔ IsEntryBinding program models r (names_in terms ms) (values_in terms roots) b) same
    (subst (λ (xs : List NumberedValues). Contains (map (values_in terms) xs) b ↔ IsEntryBinding program models p.0 (names_in terms ms) (values_in terms roots) b) (sym is) all))
    c.all_joined.ensures

pub returns-clause-each_once : goal.returns-clause-each_once
returns-clause-each_once c =
    let p = c.requires.planned in
    let program = c.args.program.now in
    let models = c.args.models.now in
    let terms = c.args.table.now in
    let ms = c.args.matches.now in
    let roots = c.args.roots.now in
    let rel = c.index-as_slice-plan.result in
    let number = c.args.plan.now.rel in
    let here : rel ≡ p.0 = c.index-as_slice-plan.is ∙ ap (λ rels. slice_index_or rels number rel) c.as_slice.ensures ∙ get_or_from_slice_get program.rels number p.0 rel p.1.found in
    let found : AreFound program models p.0 roots (values_of c.in_ok-found.found)
    = subst (λ (fixed : Values). (b : Values) → Contains (values_of c.in_ok-found.found) b ↔ SourceWithoutTarget program models p.0 fixed b) c.in_ok-fixed.ensures (c.in_ok-found.ensures.exact p.0 p.1) in
    IfOk-weaker c.all_joined.result _ _
    (λ bs h.
    let is : bs ≡ all_joined program models ms p.0 roots (values_of c.in_ok-found.found)
    = h ∙ ap (λ ds. all_joined program models ms rel roots (values_of ds)) c.as_slice-2.ensures ∙ ap (λ (r : Rel). all_joined program models ms r roots (values_of c.in_ok-found.found)) here in
    subst (λ (xs : List NumberedValues). AllPairs (λ a b. a ≢ b) (map (values_in terms) xs)) (sym is)
    (each_once program models p.0 terms ms roots p.2 p.3 c.len-terms.ensures.distinct c.requires.numbers c.requires.names (values_of c.in_ok-found.found) found (c.in_ok-found.ensures.sorted p.0 p.1)
    (later_from_pairs (λ m n. m ≢ n) ms c.len-matches.ensures.distinct)))
    c.all_joined.ensures

pub returns-clause-within : goal.returns-clause-within
returns-clause-within c =
    let program = c.args.program.now in
    let models = c.args.models.now in
    let ms = c.args.matches.now in
    let roots = c.args.roots.now in
    let rel = c.index-as_slice-plan.result in
    let ds = values_of c.in_ok-found.found in
    IfOk-weaker c.all_joined.result _ _
    (λ bs h b there.
    let is : bs ≡ all_joined program models ms rel roots ds = h ∙ ap (λ xs. all_joined program models ms rel roots (values_of xs)) c.as_slice-2.ensures in
    all_within c.args.table.now program models ms rel c.requires.names roots c.requires.numbers ds b (subst (λ (xs : List NumberedValues). Contains xs b) is there))
    c.all_joined.ensures
