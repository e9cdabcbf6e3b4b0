use Rattle.std.specs.Prelude.{◌≡◌, None, false, List, length, replicate, slice_index_or}
use Rattle.std.proofs.Common.{sym, ap, subst, ◌∙◌}
use Rattle.std.proofs.lemmas.Option.{get_or_from_slice_get}
use Rattle.qv_syntax.specs.declared.program.Rel.{Rel}
use Rattle.qv_syntax.specs.declared.program.Dom.{Dom}
use Rattle.repair_semantics.specs.EntryValues.{TermValues}
use Rattle.term_table.specs.TermTables.{values_in}
use Rattle.entry_bindings.specs.Matches.{names_in}
use Rattle.entry_finding.specs.Found.{IsSought, AreFound, IsUnmetAmong, IfMet, IfUnmet}
use Rattle.entry_finding.proofs.SoughtLaws.{top_sought}
use Rattle.entry_tops.specs.Steps.{IsWithFound}
use Rattle.entry_tops.proofs.NoRoots.{none_shown}
use Rattle.entry_tops.proofs.search.add_relation.Goals as goal

pub entries_with-requires-clause-sought : goal.entries_with-requires-clause-sought
entries_with-requires-clause-sought c =
    let p = c.requires.premises in
    let top = c.requires.top in
    let program = c.args.world.now.program.now in
    let models = c.args.world.now.models.now in
    let rel = c.index-as_slice-number.result in
    let here : rel ≡ top.0 = c.index-as_slice-number.is ∙ ap (λ (rels : List Rel). slice_index_or rels c.args.number rel) c.as_slice.ensures ∙ get_or_from_slice_get program.rels c.args.number top.0 rel top.1.is in
    let many = c.len.ensures ∙ ap (λ (r : Rel). length r.vars) here in
    let none = c.as_slice-2.ensures ∙ c.in_ok-roots.ensures ∙ ap (λ n. replicate n None) many in
    let shown = ap (values_in c.args.table.now) none ∙ none_shown c.args.table.now (length (top.0).vars) in
    (p.0, p.1, subst (IsSought p.0 program models c.args.number) (sym shown) (top_sought p.0 program models p.1 c.args.number top.0 top.1))

pub returns-in-Met-clause-found : goal.returns-in-Met-clause-found
returns-in-Met-clause-found c =
    let top = c.requires.top in
    let program = c.args.world.now.program.now in
    let models = c.args.world.now.models.now in
    let terms = c.entries_with.new.table in
    let rel = c.index-as_slice-number.result in
    let here : rel ≡ top.0 = c.index-as_slice-number.is ∙ ap (λ (rels : List Rel). slice_index_or rels c.args.number rel) c.as_slice.ensures ∙ get_or_from_slice_get program.rels c.args.number top.0 rel top.1.is in
    let many = c.len.ensures ∙ ap (λ (r : Rel). length r.vars) here in
    let none = c.as_slice-2.ensures ∙ c.in_ok-roots.ensures ∙ ap (λ n. replicate n None) many in
    let shown = ap (values_in terms) none ∙ none_shown terms (length (top.0).vars) in
    let names = names_in terms c.args.tops.now.matches in
    let found = subst (IfMet (AreFound program models terms names c.args.number false (values_in terms c.as_slice-2.result.now))) c.in-Met.is c.in_ok-found.ensures.met in
    let domains = c.as_slice-in-Met.ensures ∙ ap (λ (r : Rel). r.domains) here in
    record {
      rel = top.0;
      at = top.1.is;
      found = c.in-Met.found;
      are = subst (λ (vs : TermValues). AreFound program models terms names c.args.number false vs c.in-Met.found) shown found;
      put = subst (λ (doms : List Dom). IsWithFound doms c.in-Met.found c.args.tops.now c.append_found.new.tops) domains c.in_ok-append_found-in-Met.ensures;
    }

pub returns-clause-found : goal.returns-clause-found
returns-clause-found c =
    let top = c.requires.top in
    let program = c.args.world.now.program.now in
    let models = c.args.world.now.models.now in
    let terms = c.entries_with.new.table in
    let rel = c.index-as_slice-number.result in
    let here : rel ≡ top.0 = c.index-as_slice-number.is ∙ ap (λ (rels : List Rel). slice_index_or rels c.args.number rel) c.as_slice.ensures ∙ get_or_from_slice_get program.rels c.args.number top.0 rel top.1.is in
    let many = c.len.ensures ∙ ap (λ (r : Rel). length r.vars) here in
    let none = c.as_slice-2.ensures ∙ c.in_ok-roots.ensures ∙ ap (λ n. replicate n None) many in
    let shown = ap (values_in terms) none ∙ none_shown terms (length (top.0).vars) in
    let names = names_in terms c.args.tops.now.matches in
    let unmet = subst (IfUnmet (IsUnmetAmong program models terms names c.args.number false (values_in terms c.as_slice-2.result.now))) c.in-Unmet.is c.in_ok-found.ensures.unmet in
    record {
      rel = top.0;
      at = top.1.is;
      among = subst (λ (vs : TermValues). IsUnmetAmong program models terms names c.args.number false vs c.in-Unmet.unmet) shown unmet;
    }
