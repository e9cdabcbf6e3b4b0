-- The calls by numbers are the calls by terms.
use Rattle.std.specs.Prelude.{◌≡◌, ◌<◌, ◌+◌, ◌++◌, ℕ, zero, suc, List, [], ◌∷◌, map, length, drop, replicate, Option, None, Some, slice_get, slice_index_or, slice_set}
use Rattle.std.specs.List.{cons_option, filter_map}
use Rattle.std.specs.Option.{option_map, option_and_then, option_to_list}
use Rattle.std.proofs.Common.{refl, sym, ap, ◌∙◌, arith}
use Rattle.std.proofs.lemmas.List.{map-set}
use Rattle.object_tables.specs.Models.{ModelData}
use Rattle.qv_syntax.specs.declared.program.Program.{Program}
use Rattle.qv_syntax.specs.declared.program.Rel.{Rel}
use Rattle.qv_syntax.specs.declared.program.Dom.{Dom}
use Rattle.qv_syntax.specs.declared.program.Conj.{Conj}
use Rattle.qv_syntax.specs.declared.program.Conj.TheVariants as conjuncts
use Rattle.qv_syntax.specs.declared.typed.Typed.{Typed}
use Rattle.qvtr_semantics.specs.Outs.{all_given}
use Rattle.repair_semantics.specs.declared.term.Term.{Term}
use Rattle.repair_semantics.specs.declared.term.TermValue.{TermValue}
use Rattle.repair_semantics.specs.declared.entry.EntryName.{EntryName}
use Rattle.repair_semantics.specs.EntryValues.{TermValues, Known, value_of, with_roots, root_values, given_value}
use Rattle.repair_semantics.specs.Entries.{bound_roots, call_to, named_call, calls_in}
use Rattle.term_table.specs.declared.numbered.NumberedValue.{NumberedValue}
use Rattle.term_table.specs.TermTables.{value_in, values_in}
use Rattle.entry_making.specs.declared.numbered_call.NumberedCall.{NumberedCall}
use Rattle.entry_making.specs.declared.numbered_known.NumberedKnown.{NumberedKnown}
use Rattle.entry_making.specs.Givers.{giver_value, expression_giver}
use Rattle.entry_making.specs.Numbered.{known_of, giver_numbers}
use Rattle.entry_making.specs.CallNumbers.{with_root, with_numbers, roots_among, root_numbers, number_call_to, number_call, conjunct_calls, number_calls, call_of, calls_of}
use Rattle.entry_making.proofs.KeyedLaws.{expression_given}
use Rattle.entry_making.proofs.DecodedLaws.{value_shown, givers_shown}

-- ---- roots, one after another

no_more : (b : List (Option NumberedValue)) (doms : List Dom) → with_numbers b doms [] ≡ b
no_more b [] = refl
no_more b (dom ∷ doms) = refl

next_from : (b : List (Option NumberedValue)) (doms : List Dom) (xs : List NumberedValue) (i : ℕ) (d : Dom) → i < length doms
    → with_numbers b (drop i doms) (drop i xs) ≡ with_numbers (with_root b (slice_index_or doms i d).root (slice_get xs i)) (drop (suc i) doms) (drop (suc i) xs)
next_from b [] xs i d below = absurd (omega (arith, below))
next_from b (dom ∷ doms) [] zero d below = sym (no_more b doms)
next_from b (dom ∷ doms) (x ∷ xs) zero d below = refl
next_from b (dom ∷ doms) [] (suc i) d below = no_more b (drop i doms) ∙ sym (no_more b (drop (suc i) doms))
next_from b (dom ∷ doms) (x ∷ xs) (suc i) d below = next_from b doms xs i d (omega (arith, below))

-- the root of the domain at a place gets the value at that place, if there is one
pub next_root : (b : List (Option NumberedValue)) (doms : List Dom) (xs : List NumberedValue) (i : ℕ) (d : Dom) → i < length doms
    → with_numbers b (drop i doms) (drop i xs) ≡ with_numbers (with_root b (slice_index_or doms i d).root (slice_get xs i)) (drop (i + 1) doms) (drop (i + 1) xs)
next_root b doms xs i d below =
    let on : suc i ≡ i + 1 = omega arith in
    next_from b doms xs i d below ∙ ap (λ (k : ℕ). with_numbers (with_root b (slice_index_or doms i d).root (slice_get xs i)) (drop k doms) (drop k xs)) on

module _ (terms : List Term) where
  with_shown : (b : List (Option NumberedValue)) (doms : List Dom) (xs : List NumberedValue) → values_in terms (with_numbers b doms xs) ≡ with_roots (values_in terms b) doms (map (value_in terms) xs)
  with_shown b [] xs = refl
  with_shown b (dom ∷ doms) [] = refl
  with_shown b (dom ∷ doms) (x ∷ xs) =
      with_shown (slice_set b dom.root (Some x)) doms xs
      ∙ ap (λ (c : TermValues). with_roots c doms (map (value_in terms) xs)) (map-set (option_map (value_in terms)) b dom.root (Some x))

  none_shown : (n : ℕ) → values_in terms (replicate n None) ≡ replicate n None
  none_shown zero = refl
  none_shown (suc n) = ap (λ (xs : TermValues). None ∷ xs) (none_shown n)

  among_shown : (b : List (Option NumberedValue)) (doms : List Dom) → map (value_in terms) (roots_among b doms) ≡ filter_map (λ (dom : Dom). value_of (values_in terms b) dom.root) doms
  among_shown b [] = refl
  among_shown b (dom ∷ doms) = by (slice_index_or b dom.root None) (value_of (values_in terms b) dom.root) (sym (value_shown terms b dom.root)) (among_shown b doms)
    where
      by : (o : Option NumberedValue) (q : Option TermValue) → q ≡ option_map (value_in terms) o
          → map (value_in terms) (roots_among b doms) ≡ filter_map (λ (d : Dom). value_of (values_in terms b) d.root) doms
          → map (value_in terms) (option_to_list o ++ roots_among b doms) ≡ cons_option q (filter_map (λ (d : Dom). value_of (values_in terms b) d.root) doms)
      by None q same h = h ∙ ap (λ (z : Option TermValue). cons_option z (filter_map (λ (d : Dom). value_of (values_in terms b) d.root) doms)) (sym same)
      by (Some x) q same h =
          ap (λ (zs : List TermValue). value_in terms x ∷ zs) h ∙ ap (λ (z : Option TermValue). cons_option z (filter_map (λ (d : Dom). value_of (values_in terms b) d.root) doms)) (sym same)

  roots_shown : (rel : Rel) (xs : List NumberedValue) → map (value_in terms) (root_numbers rel xs) ≡ bound_roots rel (map (value_in terms) xs)
  roots_shown rel xs =
      among_shown (with_numbers (replicate (length rel.vars) None) rel.domains xs) rel.domains
      ∙ ap (λ (b : TermValues). filter_map (λ (dom : Dom). value_of b dom.root) rel.domains)
      (with_shown (replicate (length rel.vars) None) rel.domains xs ∙ ap (λ (b : TermValues). with_roots b rel.domains (map (value_in terms) xs)) (none_shown (length rel.vars)))

  module _ (program : Program) (models : List ModelData) (k : NumberedKnown) where
    abbrev all : Known
    all = known_of terms k

    args_given : (args : List Typed) → map (given_value program models all) args ≡ map (giver_value program models all) (map expression_giver args)
    args_given [] = refl
    args_given (e ∷ es) =
        ap (λ (o : Option TermValue). o ∷ map (given_value program models all) es) (expression_given program models all e)
        ∙ ap (λ (os : List (Option TermValue)). giver_value program models all (expression_giver e) ∷ os) (args_given es)

    made_of : (number : ℕ) (called : Option Rel) (given : Option (List NumberedValue))
        → option_map (call_of terms) (option_and_then (λ xs. option_map (number_call_to number xs) called) given) ≡ option_and_then (call_to number called) (option_map (map (value_in terms)) given)
    made_of number called None = refl
    made_of number None (Some xs) = refl
    made_of number (Some rel) (Some xs) = ap (λ (roots : List TermValue). Some (record { rel = number; roots = roots })) (roots_shown rel xs)

    named_is : (number : ℕ) (args : List Typed) → option_map (call_of terms) (number_call program models k number args) ≡ named_call program models all number args
    named_is number args =
        made_of number (slice_get program.rels number) (giver_numbers program models k.values k.scope (map expression_giver args))
        ∙ ap (option_and_then (call_to number (slice_get program.rels number)))
        (givers_shown program models terms k.values k.scope (map expression_giver args) ∙ ap (λ (os : List (Option TermValue)). all_given os) (sym (args_given args)))

    pub calls_are : (clause : List Conj) → calls_of terms (number_calls program models k clause) ≡ calls_in program models all clause
    calls_are [] = refl
    calls_are (conjuncts.Cond e ∷ cs) = calls_are cs
    calls_are (conjuncts.Equation v e ∷ cs) = calls_are cs
    calls_are (conjuncts.Call number args ∷ cs) =
        ap (λ (c : Option EntryName). c ∷ calls_of terms (number_calls program models k cs)) (named_is number args)
        ∙ ap (λ (xs : List (Option EntryName)). named_call program models all number args ∷ xs) (calls_are cs)
