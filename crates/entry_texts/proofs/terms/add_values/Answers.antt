-- One more value.
use Rattle.std.specs.Prelude.{◌≡◌, ◌+◌, ◌++◌, ◌∷◌, ℕ, List, map, drop}
use Rattle.std.proofs.Common.{arith, sym, ap, ◌∙◌, get_or}
use Rattle.std.proofs.lemmas.List.{drop_more, drop_all}
use Rattle.repair_semantics.specs.declared.term.TermValue.{TermValue}
use Rattle.answer_texts.specs.Question.{Question}
use Rattle.entry_texts.specs.EntryTexts.{term_value_text}
use Rattle.entry_texts.specs.Commas.{listed_from}
use Rattle.entry_texts.specs.Naming.{question}
use Rattle.entry_texts.proofs.CommaLaws.{listed_more, listed_all}
use Rattle.entry_texts.proofs.terms.add_values.Goals as goal

pub loop-place-preserved : goal.loop-place-preserved
loop-place-preserved c =
    let q : Question = question c.args.names.now in
    let vs : List TermValue = c.args.values.now in
    let k : ℕ = c.loop-place.place in
    let v : TermValue = c.index-values-place.result in
    let next : drop k vs ≡ v ∷ drop (k + 1) vs = drop_more vs k v (omega arith) ∙ ap (λ x. x ∷ drop (k + 1) vs) (sym c.index-values-place.is) in
    let more : List (List ℕ) = map (term_value_text q) (drop (k + 1) vs) in
    ap (λ out. out ++ listed_from (k + 1) more) (c.in_ok-add_value.ensures ∙ ap (λ out. out ++ term_value_text q v) c.in_ok-add_comma.ensures)
    ∙ listed_more k c.loop-place.out.items (term_value_text q v) (map (term_value_text q) (drop k vs)) more (ap (map (term_value_text q)) next)
    ∙ c.loop-place.invariant

pub returns : goal.returns
returns c =
    let q : Question = question c.args.names.now in
    let vs : List TermValue = c.args.values.now in
    let k : ℕ = c.loop-place.place in
    listed_all k c.loop-place.out.items (map (term_value_text q) (drop k vs)) (ap (map (term_value_text q)) (drop_all k vs (omega arith))) ∙ c.loop-place.invariant
