-- Bindings that are twins make calls whose roots are twins.
use Rattle.std.specs.Prelude.{◌≡◌, ℕ, true, List, [], ◌∷◌, map, Option, None, Some, slice_get, Contains}
use Rattle.std.specs.List.{AllZip}
use Rattle.std.specs.Option.{option_map}
use Rattle.std.proofs.Common.{refl, sym, ap, ◌∙◌}
use Rattle.mof_metamodel.specs.declared.desc.MetaDesc.{MetaDesc}
use Rattle.mof_metamodel.proofs.Facts.{contains_first}
use Rattle.object_tables.specs.Models.{ModelData}
use Rattle.qv_syntax.specs.declared.program.Program.{Program}
use Rattle.qv_syntax.specs.declared.program.Rel.{Rel}
use Rattle.qv_syntax.specs.declared.program.Conj.{Conj}
use Rattle.qv_syntax.specs.declared.program.Conj.TheVariants as conjuncts
use Rattle.qv_syntax.specs.declared.typed.Typed.{Typed}
use Rattle.qv_syntax.specs.Relations.{CallsIn}
use Rattle.qv_syntax.specs.WellFormed.{IsWellFormed}
use Rattle.qvtr_semantics.specs.declared.datum.Datum.{Datum}
use Rattle.qvtr_semantics.specs.Outs.{datum_of, all_given}
use Rattle.qvtr_semantics.specs.Expressions.{value_for}
use Rattle.qvtr_semantics.specs.Templates.{Values}
use Rattle.qvtr_semantics.specs.Calls.{RelationCall, Asked, AllAsked, free, with_roots, call_with, call_of, calls_of}
use Rattle.template_match.proofs.ListLaws.{contains_later}
use Rattle.source_laws.specs.SourceRelations.{IsApart}
use Rattle.source_laws.specs.TargetRule.{HasConjunct, HandsTargetOn}
use Rattle.source_laws.proofs.RuleLaws.{rule_plain}
use Rattle.source_laws.proofs.RootLaws.{calls_in, call_apart}
use Rattle.same_targets.proofs.Twins.{Pairing, turned_round, OneTwin, AllTwins, IsTwinning}
use Rattle.same_targets.proofs.TwinBindings.{AreTwins, roots_twins, free_twins, turned_twins}
use Rattle.same_targets.proofs.TwinTargets.{plain_twin}

-- two calls of one relation, with twins for roots
pub record AreTwinCalls (R : Pairing) (x y : RelationCall) : Type 0 where
  pub rel : x.rel ≡ y.rel
  pub roots : AreTwins R x.roots y.roots

pub turned_calls : (R : Pairing) (x y : RelationCall) → AreTwinCalls R x y → AreTwinCalls (turned_round R) y x
turned_calls R x y twins = record { rel = sym twins.rel; roots = turned_twins R x.roots y.roots twins.roots }

-- both are made, or neither is
abbrev pub OneCall : Pairing → Option RelationCall → Option RelationCall → Type 0
OneCall R None None = Unit {0}
OneCall R None (Some y) = ⊥
OneCall R (Some x) None = ⊥
OneCall R (Some x) (Some y) = AreTwinCalls R x y

-- ---- arguments

more_given : (R : Pairing) (d e : Datum) → R d e → (s u : Option (List Datum)) → AllTwins R s u → AllTwins R (option_map (λ ds. d ∷ ds) s) (option_map (λ es. e ∷ es) u)
more_given R d e r None None h = tt
more_given R d e r None (Some es) h = absurd h
more_given R d e r (Some ds) None h = absurd h
more_given R d e r (Some ds) (Some es) h = (r, h)

all_twins : (R : Pairing) (f g : Typed → Option Datum) (args : List Typed) → ((e : Typed) → Contains args e → OneTwin R (f e) (g e))
    → AllTwins R (all_given (map f args)) (all_given (map g args))
all_twins R f g [] each = tt
all_twins R f g (e ∷ es) each = by (f e) (g e) (each e (contains_first e es)) (all_twins R f g es (λ x has. each x (contains_later x e es has)))
  where
    by : (o p : Option Datum) → OneTwin R o p → AllTwins R (all_given (map f es)) (all_given (map g es))
        → AllTwins R (all_given (o ∷ map f es)) (all_given (p ∷ map g es))
    by None None h rest = tt
    by None (Some y) h rest = absurd h
    by (Some x) None h rest = absurd h
    by (Some x) (Some y) h rest = more_given R x y h (all_given (map f es)) (all_given (map g es)) rest

call_twin : (R : Pairing) (n : ℕ) (o : Option Rel) (s u : Option (List Datum)) → AllTwins R s u → OneCall R (call_with n o s) (call_with n o u)
call_twin R n None s u h = tt
call_twin R n (Some rel) None None h = tt
call_twin R n (Some rel) None (Some es) h = absurd h
call_twin R n (Some rel) (Some ds) None h = absurd h
call_twin R n (Some rel) (Some ds) (Some es) h =
    record { rel = refl; roots = roots_twins R (free rel) (free rel) rel.domains ds es (free_twins R rel) h }

call_number : (n : ℕ) (o : Option Rel) (s : Option (List Datum)) (call : RelationCall) → call_with n o s ≡ Some call → call.rel ≡ n
call_number n None s call is = absurd (cc)
call_number n (Some rel) None call is = absurd (cc)
call_number n (Some rel) (Some ds) call is =
    let made : RelationCall = record { rel = n; roots = with_roots (free rel) rel.domains ds } in
    ap (λ (x : RelationCall). x.rel) (sym (one made call is))
  where
    one : (x y : RelationCall) → Some x ≡ Some y → x ≡ y
    one x y k = cc

-- ---- what is asked of calls

pub asked_there : (R : Pairing) (P Q : Asked) (cs ds : List (Option RelationCall)) → AllZip (OneCall R) cs ds
    → ((x y : RelationCall) → Contains cs (Some x) → AreTwinCalls R x y → P x → Q y) → AllAsked P cs → AllAsked Q ds
asked_there R P Q [] [] zip each asked = tt
asked_there R P Q [] (d ∷ ds) zip each asked = absurd zip
asked_there R P Q (c ∷ cs) [] zip each asked = absurd zip
asked_there R P Q (None ∷ cs) (None ∷ ds) zip each asked = absurd asked
asked_there R P Q (None ∷ cs) (Some y ∷ ds) zip each asked = absurd zip.0
asked_there R P Q (Some x ∷ cs) (None ∷ ds) zip each asked = absurd zip.0
asked_there R P Q (Some x ∷ cs) (Some y ∷ ds) zip each asked = (
  each x y (contains_first (Some x) cs) zip.0 asked.0,
  asked_there R P Q cs ds zip.1 (λ a b has. each a b (contains_later (Some a) (Some x) cs has)) asked.1,
)

-- ---- calls of a clause

module _ (metas : List MetaDesc) (program : Program) (formed : IsWellFormed metas program) (number : ℕ) (rel : Rel) (found : slice_get program.rels number ≡ Some rel)
    (rule : HandsTargetOn program rel) (ms ns : List ModelData) (R : Pairing) (i : IsTwinning program ms ns R) (b c : Values) (apart : IsApart program rel b)
    (twins : AreTwins R b c)
  where
    made : (clause : List Conj) → ((x : Conj) → Contains clause x → HasConjunct rel x) → (n : ℕ) (args : List Typed) → Contains clause (conjuncts.Call n args)
        → OneCall R (call_of program ms b n args) (call_of program ns c n args)
    made clause there n args has =
        call_twin R n (slice_get program.rels n) (all_given (map (λ e. datum_of (value_for program ms e b)) args)) (all_given (map (λ e. datum_of (value_for program ns e c)) args))
        (all_twins R (λ e. datum_of (value_for program ms e b)) (λ e. datum_of (value_for program ns e c)) args
        (λ e among. plain_twin program ms ns R i rel b c apart twins e (rule_plain metas program formed number rel found clause there rule n args e has among)))

    pub calls_twins : (clause : List Conj) → ((x : Conj) → Contains clause x → HasConjunct rel x) → AllZip (OneCall R) (calls_of program ms b clause) (calls_of program ns c clause)
    calls_twins [] there = tt
    calls_twins (conjuncts.Call n args ∷ cs) there = (
      made (conjuncts.Call n args ∷ cs) there n args (contains_first (conjuncts.Call n args) cs),
      calls_twins cs (λ x has. there x (contains_later x (conjuncts.Call n args) cs has)),
    )
    calls_twins (conjuncts.Cond e ∷ cs) there = calls_twins cs (λ x has. there x (contains_later x (conjuncts.Cond e) cs has))
    calls_twins (conjuncts.Equation v e ∷ cs) there = calls_twins cs (λ x has. there x (contains_later x (conjuncts.Equation v e) cs has))

-- A call whose relation is one of the direction, and in whose roots only the variables for objects of the target have such objects.
pub record IsPlainCall (program : Program) (x : RelationCall) : Type 0 where
  pub direction : (called : Rel) → slice_get program.rels x.rel ≡ Some called → called.in_direction ≡ true
  pub apart : (called : Rel) → slice_get program.rels x.rel ≡ Some called → IsApart program called x.roots

-- so is each that a relation of the direction makes
pub plain_call : (metas : List MetaDesc) (program : Program) → IsWellFormed metas program → (number : ℕ) (rel : Rel) → slice_get program.rels number ≡ Some rel → HandsTargetOn program rel
    → (models : List ModelData) (b : Values) → IsApart program rel b → (clause : List Conj) → ((x : Conj) → Contains clause x → HasConjunct rel x)
    → ((n : ℕ) (called : Rel) → CallsIn clause n → slice_get program.rels n ≡ Some called → called.in_direction ≡ true)
    → (x : RelationCall) → Contains (calls_of program models b clause) (Some x) → IsPlainCall program x
plain_call metas program formed number rel found rule models b apart clause there directed x has =
    let (n, args, among, made) = calls_in program models b clause x has in
    let same : x.rel ≡ n = call_number n (slice_get program.rels n) (all_given (map (λ e. datum_of (value_for program models e b)) args)) x made in
    record {
      direction = λ called is. directed n called (args, among) (ap (slice_get program.rels) (sym same) ∙ is);
      apart = λ called is. call_apart metas program formed number rel found models b apart clause there rule x called has is;
    }
