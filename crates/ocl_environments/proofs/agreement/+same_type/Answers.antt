use Rattle.std.proofs.Common.{◌∙◌, sym, ap, eqb, eq-eqb}
use Rattle.std.proofs.lemmas.Bool.{ne_eqb}
use Rattle.qv_syntax.specs.declared.ty.Ty.{Ty}
use Rattle.qv_syntax.specs.declared.ty.Ty.TheOpen as of
use Rattle.qv_syntax.specs.declared.ty.Ty.TheVariants.{Str, Int, Bool, Null, rolls-Enum, rolls-Class, rolls-Coll}
use Rattle.ocl_environments.specs.Agreement.{same_kind, same_type}
use Rattle.ocl_environments.proofs.TypeLaws.{same_told, same_here, same_rolled, and_first, and_second}
use Rattle.ocl_environments.proofs.agreement.+same_type.Goals as goal

pub returns-in-Str-Str-clause-same : goal.returns-in-Str-Str-clause-same
returns-in-Str-Str-clause-same t c = same_here _ _ Str c.in-Str-Str.is-0 c.in-Str-Str.is-1

pub returns-in-Int-Int-clause-same : goal.returns-in-Int-Int-clause-same
returns-in-Int-Int-clause-same t c = same_here _ _ Int c.in-Int-Int.is-0 c.in-Int-Int.is-1

pub returns-in-Bool-Bool-clause-same : goal.returns-in-Bool-Bool-clause-same
returns-in-Bool-Bool-clause-same t c = same_here _ _ Bool c.in-Bool-Bool.is-0 c.in-Bool-Bool.is-1

pub returns-in-Null-Null-clause-same : goal.returns-in-Null-Null-clause-same
returns-in-Null-Null-clause-same t c = same_here _ _ Null c.in-Null-Null.is-0 c.in-Null-Null.is-1

pub returns-then-m-n-clause-same : goal.returns-then-m-n-clause-same
returns-then-m-n-clause-same t c =
    same_told _ _ _ (and_second (eqb c.in-Enum-Enum.m c.in-Enum-Enum.n) (eqb c.in-Enum-Enum.e.0 c.in-Enum-Enum.f.0) (eq-eqb c.in-Enum-Enum.m c.in-Enum-Enum.n c.if-m-n.true)
    ∙ sym (same_rolled (of.Enum c.in-Enum-Enum.m c.in-Enum-Enum.e) (of.Enum c.in-Enum-Enum.n c.in-Enum-Enum.f) _ _ (rolls-Enum c.in-Enum-Enum.m c.in-Enum-Enum.e ∙ sym c.in-Enum-Enum.is-0) (rolls-Enum c.in-Enum-Enum.n c.in-Enum-Enum.f ∙ sym c.in-Enum-Enum.is-1)))

pub returns-else-m-n-clause-same : goal.returns-else-m-n-clause-same
returns-else-m-n-clause-same t c =
    same_told _ _ _ (and_first (eqb c.in-Enum-Enum.m c.in-Enum-Enum.n) (eqb c.in-Enum-Enum.e.0 c.in-Enum-Enum.f.0) (ne_eqb c.in-Enum-Enum.m c.in-Enum-Enum.n c.if-m-n.false)
    ∙ sym (same_rolled (of.Enum c.in-Enum-Enum.m c.in-Enum-Enum.e) (of.Enum c.in-Enum-Enum.n c.in-Enum-Enum.f) _ _ (rolls-Enum c.in-Enum-Enum.m c.in-Enum-Enum.e ∙ sym c.in-Enum-Enum.is-0) (rolls-Enum c.in-Enum-Enum.n c.in-Enum-Enum.f ∙ sym c.in-Enum-Enum.is-1)))

pub returns-then-m-n-2-clause-same : goal.returns-then-m-n-2-clause-same
returns-then-m-n-2-clause-same t c =
    same_told _ _ _ (and_second (eqb c.in-Class-Class.m c.in-Class-Class.n) (eqb c.in-Class-Class.c.0 c.in-Class-Class.d.0) (eq-eqb c.in-Class-Class.m c.in-Class-Class.n c.if-m-n-2.true)
    ∙ sym (same_rolled (of.Class c.in-Class-Class.m c.in-Class-Class.c) (of.Class c.in-Class-Class.n c.in-Class-Class.d) _ _ (rolls-Class c.in-Class-Class.m c.in-Class-Class.c ∙ sym c.in-Class-Class.is-0) (rolls-Class c.in-Class-Class.n c.in-Class-Class.d ∙ sym c.in-Class-Class.is-1)))

pub returns-else-m-n-2-clause-same : goal.returns-else-m-n-2-clause-same
returns-else-m-n-2-clause-same t c =
    same_told _ _ _ (and_first (eqb c.in-Class-Class.m c.in-Class-Class.n) (eqb c.in-Class-Class.c.0 c.in-Class-Class.d.0) (ne_eqb c.in-Class-Class.m c.in-Class-Class.n c.if-m-n-2.false)
    ∙ sym (same_rolled (of.Class c.in-Class-Class.m c.in-Class-Class.c) (of.Class c.in-Class-Class.n c.in-Class-Class.d) _ _ (rolls-Class c.in-Class-Class.m c.in-Class-Class.c ∙ sym c.in-Class-Class.is-0) (rolls-Class c.in-Class-Class.n c.in-Class-Class.d ∙ sym c.in-Class-Class.is-1)))

pub returns-then-same_kind-clause-same : goal.returns-then-same_kind-clause-same
returns-then-same_kind-clause-same t c =
    same_told _ _ _ (c.same_type.ensures.test ∙ ap (λ (ty : Ty). same_type ty c.get-then-same_kind.result.now) c.get.ensures ∙ ap (same_type c.in-Coll-Coll.x) c.get-then-same_kind.ensures
    ∙ and_second (same_kind c.in-Coll-Coll.k c.in-Coll-Coll.l) (same_type c.in-Coll-Coll.x c.in-Coll-Coll.y) (sym c.same_kind.ensures.test ∙ c.if-same_kind.true)
    ∙ sym (same_rolled (of.Coll c.in-Coll-Coll.k c.in-Coll-Coll.x) (of.Coll c.in-Coll-Coll.l c.in-Coll-Coll.y) _ _ (rolls-Coll c.in-Coll-Coll.k c.in-Coll-Coll.x ∙ sym c.in-Coll-Coll.is-0) (rolls-Coll c.in-Coll-Coll.l c.in-Coll-Coll.y ∙ sym c.in-Coll-Coll.is-1)))

pub returns-else-same_kind-clause-same : goal.returns-else-same_kind-clause-same
returns-else-same_kind-clause-same t c =
    same_told _ _ _ (c.same_kind.ensures.test ∙ and_first (same_kind c.in-Coll-Coll.k c.in-Coll-Coll.l) (same_type c.in-Coll-Coll.x c.in-Coll-Coll.y) (sym c.same_kind.ensures.test ∙ c.if-same_kind.false)
    ∙ sym (same_rolled (of.Coll c.in-Coll-Coll.k c.in-Coll-Coll.x) (of.Coll c.in-Coll-Coll.l c.in-Coll-Coll.y) _ _ (rolls-Coll c.in-Coll-Coll.k c.in-Coll-Coll.x ∙ sym c.in-Coll-Coll.is-0) (rolls-Coll c.in-Coll-Coll.l c.in-Coll-Coll.y ∙ sym c.in-Coll-Coll.is-1)))
