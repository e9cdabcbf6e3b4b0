-- One more pair of a property with its value.
use Rattle.std.specs.Prelude.{◌≡◌, ◌+◌, ◌++◌, ◌∷◌, ℕ, List, Some, map, length, drop, slice_get, slice_index_or}
use Rattle.std.specs.List.{zip}
use Rattle.std.specs.Option.{option_map}
use Rattle.std.proofs.Common.{arith, refl, sym, ap, ◌∙◌, get_or}
use Rattle.std.proofs.lemmas.Bool.{ltb-true}
use Rattle.std.proofs.lemmas.List.{length-map}
use Rattle.std.proofs.lemmas.Option.{slice_get-map, slice_get-get_or, slice_get_read, slice_get_past}
use Rattle.mof_metamodel.specs.declared.desc.PropId.{PropId}
use Rattle.repair_semantics.specs.declared.term.TermValue.{TermValue}
use Rattle.answer_texts.specs.Question.{Question}
use Rattle.entry_texts.specs.EntryTexts.{pair_text, term_value_text}
use Rattle.entry_texts.specs.Commas.{comma, listed_from}
use Rattle.entry_texts.specs.Naming.{question}
use Rattle.entry_texts.proofs.PairLaws.{pair_next, second_ends}
use Rattle.entry_texts.proofs.CommaLaws.{listed_more, listed_all}
use Rattle.entry_texts.proofs.terms.+terms.Goals as goal

pub add_pairs-loop-place-preserved : goal.add_pairs-loop-place-preserved
add_pairs-loop-place-preserved t c =
    let q : Question = question c.args.names.now in
    let ps : List PropId = c.args.props.now in
    let vs : List TermValue = c.args.values.now in
    let texts : List (List ℕ) = map (term_value_text q) vs in
    let k : ℕ = c.loop-place.place in
    let p : PropId = c.in-Some.prop.now in
    let v : TermValue = c.index-values-place.result in
    let text : List ℕ = term_value_text q v in
    let found : slice_get texts k ≡ Some text =
    slice_get-map (term_value_text q) vs k ∙ ap (λ o. option_map (term_value_text q) o) (slice_get-get_or vs k v (omega arith) ∙ ap (λ x. Some x) (sym c.index-values-place.is)) in
    let next : zip (drop k ps) (drop k texts) ≡ (p, text) ∷ zip (drop (k + 1) ps) (drop (k + 1) texts) = pair_next ps texts k p text (slice_get_read ps (length ps) k p refl (ltb-true k (length ps) (sym c.in-Some.ensures.lookup.0)) c.in-Some.ensures.lookup.1) found in
    let more : List (List ℕ) = map (pair_text q) (zip (drop (k + 1) ps) (drop (k + 1) texts)) in
    ap (λ out. out ++ listed_from (k + 1) more) (c.in_ok-add_pair.ensures ∙ ap (λ out. out ++ pair_text q (p, text)) c.in_ok-add_comma.ensures)
    ∙ listed_more k c.loop-place.out.items (pair_text q (p, text)) (map (pair_text q) (zip (drop k ps) (drop k texts))) more (ap (map (pair_text q)) next)
    ∙ c.loop-place.invariant

pub add_pairs-returns : goal.add_pairs-returns
add_pairs-returns t c =
    let q : Question = question c.args.names.now in
    let ps : List PropId = c.args.props.now in
    let texts : List (List ℕ) = map (term_value_text q) c.args.values.now in
    let k : ℕ = c.loop-place.place in
    listed_all k c.loop-place.out.items (map (pair_text q) (zip (drop k ps) (drop k texts)))
    (ap (map (pair_text q)) (second_ends ps texts k (slice_get_past texts k (omega (arith, length-map c.args.values.now (term_value_text q))))))
    ∙ c.loop-place.invariant
