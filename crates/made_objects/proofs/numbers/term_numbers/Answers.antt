use Rattle.std.proofs.Common.{ap, sym, ◌∙◌, ◌≡◌, ◌≢◌, ◌<◌, ℕ, length, map, subst, arith, All, AllPairs, is_none}
use Rattle.std.proofs.lemmas.List.{length-map}
use Rattle.std.proofs.lemmas.List.Kept.{AllPairs-filter}
use Rattle.object_tables.specs.declared.value.ObjId.{ObjId}
use Rattle.repair_semantics.specs.CandidateObjects.{fresh_terms}
use Rattle.term_table.specs.TermTables.{term_at}
use Rattle.made_objects.specs.Making.{terms_at}
use Rattle.made_objects.specs.Numbers.{object_in, known_in, unknown_in, numbered_at}
use Rattle.made_objects.proofs.NumberLaws.{as_many, known_images, unknown_fresh, unknown_within, numbers_of_terms}
use Rattle.made_objects.proofs.numbers.term_numbers.Goals as goal

pub returns-then-len-clause-many : goal.returns-then-len-clause-many
returns-then-len-clause-many c =
    let program = c.args.program.now in
    let m = c.args.target.now in
    let table = c.args.table.now in
    let terms = c.args.terms.now in
    let fresh : c.in_ok-fresh.fresh ≡ unknown_in c.in_ok-found.found terms =
    c.in_ok-fresh.ensures ∙ ap (λ objects. unknown_in objects terms) c.as_slice.ensures in
    let count : length (fresh_terms program m (terms_at table terms)) ≡ length c.in_ok-fresh.fresh =
    ap (λ ts. length ts) (sym (unknown_fresh program m table terms c.in_ok-found.found c.in_ok-found.ensures c.requires.within))
    ∙ length-map (unknown_in c.in_ok-found.found terms) (term_at table) ∙ ap (λ ns. length ns) (sym fresh) in
    omega (arith, count, c.if-len.true, c.len.ensures)

pub objects_with_fresh-objects-requires-clause-within : goal.objects_with_fresh-objects-requires-clause-within
objects_with_fresh-objects-requires-clause-within c =
    let program = c.args.program.now in
    let m = c.args.target.now in
    let table = c.args.table.now in
    let terms = c.args.terms.now in
    let found = c.in_ok-found.found in
    let fresh : c.as_slice-3.result.now ≡ unknown_in found terms =
    c.as_slice-3.ensures ∙ c.in_ok-fresh.ensures ∙ ap (λ objects. unknown_in objects terms) c.as_slice.ensures in
    subst (λ (n : ℕ). All (λ k. k < n) c.as_slice-3.result.now) (sym (as_many program m table terms found c.in_ok-found.ensures c.requires.within))
    (subst (All (λ k. k < length table)) (sym fresh) (unknown_within program m table terms found c.in_ok-found.ensures c.requires.within))

pub objects_with_fresh-objects-requires-clause-once : goal.objects_with_fresh-objects-requires-clause-once
objects_with_fresh-objects-requires-clause-once c =
    let terms = c.args.terms.now in
    let found = c.in_ok-found.found in
    let fresh : c.as_slice-3.result.now ≡ unknown_in found terms =
    c.as_slice-3.ensures ∙ c.in_ok-fresh.ensures ∙ ap (λ objects. unknown_in objects terms) c.as_slice.ensures in
    subst (AllPairs (λ (a b : ℕ). a ≢ b)) (sym fresh) (AllPairs-filter (λ (a b : ℕ). a ≢ b) (λ t. is_none (object_in found t)) terms c.requires.once)

pub returns-clause-objects : goal.returns-clause-objects
returns-clause-objects c =
    let program = c.args.program.now in
    let m = c.args.target.now in
    let table = c.args.table.now in
    let terms = c.args.terms.now in
    let found = c.in_ok-found.found in
    let fresh : c.as_slice-3.result.now ≡ unknown_in found terms =
    c.as_slice-3.ensures ∙ c.in_ok-fresh.ensures ∙ ap (λ objects. unknown_in objects terms) c.as_slice.ensures in
    numbers_of_terms program m table terms found c.in_ok-found.ensures c.requires.within c.len.ensures.distinct
    c.objects_with_fresh-objects.result.items c.end.result c.end.ensures.number
    (λ k. c.objects_with_fresh-objects.ensures k ∙ ap (λ ns. numbered_at found c.end.result ns k) fresh)

pub returns-clause-images : goal.returns-clause-images
returns-clause-images c =
    let terms = c.args.terms.now in
    ap (map (λ (o : ObjId). o.0)) (c.in_ok-images.ensures ∙ ap (λ objects. known_in objects terms) c.as_slice-2.ensures)
    ∙ known_images c.args.program.now c.args.target.now c.args.table.now terms c.in_ok-found.found c.in_ok-found.ensures c.requires.within

pub returns-clause-fresh : goal.returns-clause-fresh
returns-clause-fresh c =
    let terms = c.args.terms.now in
    ap (λ ns. terms_at c.args.table.now ns) (c.in_ok-fresh.ensures ∙ ap (λ objects. unknown_in objects terms) c.as_slice.ensures)
    ∙ unknown_fresh c.args.program.now c.args.target.now c.args.table.now terms c.in_ok-found.found c.in_ok-found.ensures c.requires.within

pub returns-clause-fresh_within : goal.returns-clause-fresh_within
returns-clause-fresh_within c =
    let table = c.args.table.now in
    let terms = c.args.terms.now in
    let found = c.in_ok-found.found in
    subst (All (λ k. k < length table)) (sym (c.in_ok-fresh.ensures ∙ ap (λ objects. unknown_in objects terms) c.as_slice.ensures))
    (unknown_within c.args.program.now c.args.target.now table terms found c.in_ok-found.ensures c.requires.within)
