-- Calls of queries that tie are one.
use Rattle.std.specs.Prelude.{◌≡◌, ℕ, zero, suc, List, ◌∷◌}
use Rattle.std.specs.FinMap.{slice_cmp-IsAntisymmetric}
use Rattle.std.specs.Ordering.{nat_cmp, is_eq}
use Rattle.std.proofs.Common.{refl, sym, ap, ◌∙◌}
use Rattle.std.proofs.lemmas.Map.Lookups.{CmpEqualImpliesEq, exact_unsigned, exact_pairs}
use Rattle.qv_syntax.specs.declared.type_tree.Kind.TheVariants.{Set, Bag, Sequence, OrderedSet}
use Rattle.qvtr_semantics.specs.declared.datum.Datum.{Datum}
use Rattle.qvtr_semantics.specs.declared.out.Out.{Out}
use Rattle.qvtr_semantics.specs.declared.out.Out.TheVariants as outs
use Rattle.ocl_eval.specs.Order.{datum_order, rank, data_in, out_order}
use Rattle.ocl_eval.specs.OrderLaws.{ties_where_same, same_decides}
use Rattle.ocl_eval.specs.QueryOrder.{args_order, call_order}

data_exact : CmpEqualImpliesEq datum_order
data_exact d e h = (same_decides d e).0 (ties_where_same d e ∙ ap is_eq h)

-- the value of a rank with these data
abbrev of_rank : ℕ → List Datum → Out
of_rank zero (d ∷ ds) = outs.One d
of_rank (suc zero) ds = outs.Many Set ds
of_rank (suc (suc zero)) ds = outs.Many Bag ds
of_rank (suc (suc (suc zero))) ds = outs.Many Sequence ds
of_rank (suc (suc (suc (suc zero)))) ds = outs.Many OrderedSet ds
of_rank (suc (suc (suc (suc (suc zero))))) ds = outs.Null
of_rank n ds = outs.Invalid

by_rank : (x : Out) → of_rank (rank x) (data_in x) ≡ x
by_rank (outs.One d) = refl
by_rank (outs.Many Set ds) = refl
by_rank (outs.Many Bag ds) = refl
by_rank (outs.Many Sequence ds) = refl
by_rank (outs.Many OrderedSet ds) = refl
by_rank outs.Null = refl
by_rank outs.Invalid = refl

outs_exact : CmpEqualImpliesEq out_order
outs_exact x y h =
    let same = exact_pairs nat_cmp _ exact_unsigned (slice_cmp-IsAntisymmetric data_exact) (rank x, data_in x) (rank y, data_in y) h in
    sym (by_rank x) ∙ ap (λ (p : ℕ × List Datum). of_rank p.0 p.1) same ∙ by_rank y

-- calls that tie are one
pub one_call : CmpEqualImpliesEq call_order
one_call c d h =
    ap (λ (p : ℕ × List Out). record { query = p.0; args = p.1 })
    (exact_pairs nat_cmp args_order exact_unsigned (slice_cmp-IsAntisymmetric outs_exact) (c.query, c.args) (d.query, d.args) h)
