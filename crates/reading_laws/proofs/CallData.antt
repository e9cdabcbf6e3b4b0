-- The datum that an argument gives to the root of its domain, where no other domain has the root.
use Rattle.std.specs.Prelude.{◌≡◌, ◌<◌, ℕ, zero, suc, List, [], ◌∷◌, map, length, Option, None, Some, slice_get, slice_set}
use Rattle.std.specs.Option.{option_map}
use Rattle.std.proofs.Common.{refl, sym, ap, subst, ◌∙◌, arith}
use Rattle.object_tables.specs.Models.{ModelData}
use Rattle.qv_syntax.specs.declared.typed.Typed.{Typed}
use Rattle.qv_syntax.specs.declared.program.Program.{Program}
use Rattle.qv_syntax.specs.declared.program.Rel.{Rel}
use Rattle.qv_syntax.specs.declared.program.Dom.{Dom}
use Rattle.qvtr_semantics.specs.declared.datum.Datum.{Datum}
use Rattle.qvtr_semantics.specs.Outs.{datum_of, all_given}
use Rattle.qvtr_semantics.specs.Expressions.{value_for}
use Rattle.qvtr_semantics.specs.Templates.{Values, value_at}
use Rattle.qvtr_semantics.specs.Calls.{RelationCall, free, with_roots, call_with, call_of}
use Rattle.reading_laws.proofs.CallValues.{none_some}
use Rattle.std.proofs.lemmas.Option.{same_Some}
use Rattle.reading_laws.proofs.CallRoots.{none_long}

put_value : (c : Values) (r : ℕ) (d : Datum) → r < length c → value_at (slice_set c r (Some d)) r ≡ Some d
put_value [] r d less = absurd (omega (arith, less))
put_value (o ∷ c) zero d less = refl
put_value (o ∷ c) (suc r) d less = put_value c r d (omega (arith, less))

put_other : (c : Values) (r v : ℕ) (d : Datum) → (r ≡ v → ⊥) → value_at (slice_set c r (Some d)) v ≡ value_at c v
put_other [] r v d other = refl
put_other (o ∷ c) zero zero d other = absurd (other refl)
put_other (o ∷ c) zero (suc v) d other = refl
put_other (o ∷ c) (suc r) zero d other = refl
put_other (o ∷ c) (suc r) (suc v) d other = put_other c r v d (λ is. other (ap suc is))

untouched : (c : Values) (doms : List Dom) (ds : List Datum) (r : ℕ) → ((j : ℕ) (dom : Dom) (d : Datum) → slice_get doms j ≡ Some dom → slice_get ds j ≡ Some d → dom.root ≡ r → ⊥)
    → value_at (with_roots c doms ds) r ≡ value_at c r
untouched c [] ds r other = refl
untouched c (dom ∷ doms) [] r other = refl
untouched c (dom ∷ doms) (d ∷ ds) r other =
    untouched (slice_set c dom.root (Some d)) doms ds r (λ j x y at there. other (suc j) x y at there) ∙ put_other c dom.root r d (other 0 dom d refl refl)

same_dom : (a b : Dom) → Some a ≡ Some b → a ≡ b
same_dom a b h = cc

put_long : (c : Values) (r : ℕ) (d : Datum) → length (slice_set c r (Some d)) ≡ length c
put_long [] r d = refl
put_long (o ∷ c) zero d = refl
put_long (o ∷ c) (suc r) d = ap suc (put_long c r d)

data_root : (c : Values) (doms : List Dom) (ds : List Datum) (i : ℕ) (dom : Dom) (d : Datum) → slice_get doms i ≡ Some dom → slice_get ds i ≡ Some d
    → ((j : ℕ) (x : Dom) (y : Datum) → i < j → slice_get doms j ≡ Some x → slice_get ds j ≡ Some y → x.root ≡ dom.root → ⊥) → dom.root < length c
    → value_at (with_roots c doms ds) dom.root ≡ Some d
data_root c [] ds i dom d at given last less = absurd (none_some dom at)
data_root c (x ∷ doms) [] i dom d at given last less = absurd (none_some d given)
data_root c (x ∷ doms) (y ∷ ds) zero dom d at given last less =
    let root : dom.root ≡ x.root = ap (λ (z : Dom). z.root) (sym (same_dom x dom at)) in
    ap (value_at (with_roots (slice_set c x.root (Some y)) doms ds)) root
    ∙ untouched (slice_set c x.root (Some y)) doms ds x.root (λ j z w there has is. last (suc j) z w (omega arith) there has (is ∙ sym root))
    ∙ put_value c x.root y (subst (λ n. n < length c) root less) ∙ given
data_root c (x ∷ doms) (y ∷ ds) (suc i) dom d at given last less =
    data_root (slice_set c x.root (Some y)) doms ds i dom d at given (λ j z w more there has is. last (suc j) z w (omega (arith, more)) there has is)
    (subst (λ n. dom.root < n) (sym (put_long c x.root y)) less)

-- the datum at a place
given_at : (f : Typed → Option Datum) (args : List Typed) (ds : List Datum) (i : ℕ) (e : Typed) → all_given (map f args) ≡ Some ds → slice_get args i ≡ Some e
    → (d : Datum) × (f e ≡ Some d) × (slice_get ds i ≡ Some d)
given_at f [] ds i e all at = absurd (none_some e at)
given_at f (x ∷ args) ds i e all at = by (f x) (all_given (map f args)) refl refl all (λ ys j others there. given_at f args ys j e others there) i at
  where
    from : (d : Datum) (ys : List Datum) → d ∷ ys ≡ ds → f x ≡ Some d → ((j : ℕ) → slice_get args j ≡ Some e → (y : Datum) × (f e ≡ Some y) × (slice_get ys j ≡ Some y))
        → (i : ℕ) → slice_get (x ∷ args) i ≡ Some e → (y : Datum) × (f e ≡ Some y) × (slice_get ds i ≡ Some y)
    from d ys same here rest zero at = (d, ap f (sym (same_typed x e at)) ∙ here, ap (λ zs. slice_get zs 0) (sym same))
      where
        same_typed : (a b : Typed) → Some a ≡ Some b → a ≡ b
        same_typed a b h = cc
    from d ys same here rest (suc i) at = let more = rest i at in (more.0, more.1, ap (λ zs. slice_get zs (suc i)) (sym same) ∙ more.2)

    by : (o : Option Datum) (p : Option (List Datum)) → f x ≡ o → all_given (map f args) ≡ p → all_given (o ∷ map f args) ≡ Some ds
        → ((ys : List Datum) (j : ℕ) → all_given (map f args) ≡ Some ys → slice_get args j ≡ Some e → (y : Datum) × (f e ≡ Some y) × (slice_get ys j ≡ Some y))
        → (i : ℕ) → slice_get (x ∷ args) i ≡ Some e → (y : Datum) × (f e ≡ Some y) × (slice_get ds i ≡ Some y)
    by None p is others h rest i at = absurd (none_some ds h)
    by (Some d) None is others h rest i at = absurd (none_some ds (sym (ap (option_map (λ ys. d ∷ ys)) others) ∙ h))
    by (Some d) (Some ys) is others h rest i at =
        from d ys (same_Some (d ∷ ys) ds (sym (ap (option_map (λ zs. d ∷ zs)) others) ∙ h)) is (λ j there. rest ys j others there) i at

-- each datum is that of an argument
given_from : (f : Typed → Option Datum) (args : List Typed) (ds : List Datum) (i : ℕ) (d : Datum) → all_given (map f args) ≡ Some ds → slice_get ds i ≡ Some d
    → (e : Typed) × (slice_get args i ≡ Some e)
given_from f [] ds i d all at = absurd (none_some d (ap (λ zs. slice_get zs i) (same_Some [] ds all) ∙ at))
given_from f (x ∷ args) ds i d all at = by (f x) (all_given (map f args)) refl all (λ ys j others there. given_from f args ys j d others there) i at
  where
    from : (y : Datum) (ys : List Datum) → y ∷ ys ≡ ds → ((j : ℕ) → slice_get ys j ≡ Some d → (e : Typed) × (slice_get args j ≡ Some e)) → (i : ℕ) → slice_get ds i ≡ Some d
        → (e : Typed) × (slice_get (x ∷ args) i ≡ Some e)
    from y ys same rest zero at = (x, refl)
    from y ys same rest (suc i) at = rest i (ap (λ zs. slice_get zs (suc i)) same ∙ at)

    by : (o : Option Datum) (p : Option (List Datum)) → all_given (map f args) ≡ p → all_given (o ∷ map f args) ≡ Some ds
        → ((ys : List Datum) (j : ℕ) → all_given (map f args) ≡ Some ys → slice_get ys j ≡ Some d → (e : Typed) × (slice_get args j ≡ Some e))
        → (i : ℕ) → slice_get ds i ≡ Some d → (e : Typed) × (slice_get (x ∷ args) i ≡ Some e)
    by None p others h rest i at = absurd (none_some ds h)
    by (Some y) None others h rest i at = absurd (none_some ds (sym (ap (option_map (λ ys. y ∷ ys)) others) ∙ h))
    by (Some y) (Some ys) others h rest i at =
        from y ys (same_Some (y ∷ ys) ds (sym (ap (option_map (λ zs. y ∷ zs)) others) ∙ h)) (λ j there. rest ys j others there) i at

-- the root of a domain has the datum of its argument
pub root_datum : (program : Program) (models : List ModelData) (c : Values) (n : ℕ) (args : List Typed) (to : RelationCall) (called : Rel) → call_of program models c n args ≡ Some to
    → slice_get program.rels n ≡ Some called → (i : ℕ) (dom : Dom) (e : Typed) → slice_get called.domains i ≡ Some dom → slice_get args i ≡ Some e
    → ((j : ℕ) (x : Dom) (more : Typed) → i < j → slice_get called.domains j ≡ Some x → slice_get args j ≡ Some more → x.root ≡ dom.root → ⊥) → dom.root < length called.vars
    → value_at to.roots dom.root ≡ datum_of (value_for program models e c)
root_datum program models c n args to called made found i dom e at given last less =
    by (all_given (map (λ x. datum_of (value_for program models x c)) args)) refl
    (sym (ap (λ o. call_with n o (all_given (map (λ x. datum_of (value_for program models x c)) args))) found) ∙ made)
  where
    by : (o : Option (List Datum)) → all_given (map (λ x. datum_of (value_for program models x c)) args) ≡ o → call_with n (Some called) o ≡ Some to
        → value_at to.roots dom.root ≡ datum_of (value_for program models e c)
    by None all h = absurd (none_some to h)
    by (Some ds) all h =
        let y = given_at (λ x. datum_of (value_for program models x c)) args ds i e all given in
        ap (λ (t : RelationCall). value_at t.roots dom.root) (sym (same_Some (record { rel = n; roots = with_roots (free called) called.domains ds }) to h))
        ∙ data_root (free called) called.domains ds i dom y.0 at y.2
        (λ j x w more there has is. let arg = given_from (λ z. datum_of (value_for program models z c)) args ds j w all has in last j x arg.0 more there arg.1 is)
        (subst (λ k. dom.root < k) (sym (none_long (length called.vars) None)) less) ∙ sym y.1
