-- A binding whose calls match stands in the joins; so the bindings that meet the source and stand there are enough.
use Rattle.std.specs.Prelude.{◌≡◌, ◌↔◌, ℕ, zero, suc, List, [], ◌∷◌, ◌++◌, map, length, replicate, Option, None, Some, slice_get, slice_set, slice_index_or, Contains}
use Rattle.std.specs.List.{AllZip}
use Rattle.std.proofs.Common.{refl, sym, ap, subst, ◌∙◌, arith, inl, inr}
use Rattle.std.proofs.lemmas.Option.{same_Some}
use Rattle.std.proofs.lemmas.List.{length-set, length-replicate}
use Rattle.object_tables.specs.Models.{ModelData}
use Rattle.qv_syntax.specs.declared.program.Program.{Program}
use Rattle.qv_syntax.specs.declared.program.Rel.{Rel}
use Rattle.qv_syntax.specs.declared.program.Dom.{Dom}
use Rattle.qv_syntax.specs.declared.program.Conj.{Conj}
use Rattle.qv_syntax.specs.declared.program.Conj.TheVariants as conjuncts
use Rattle.qv_syntax.specs.declared.typed.Typed.{Typed}
use Rattle.qv_syntax.specs.declared.typed.Node.{out-Node}
use Rattle.qvtr_semantics.specs.declared.datum.Datum.{Datum}
use Rattle.qvtr_semantics.specs.Outs.{datum_of, all_given}
use Rattle.qvtr_semantics.specs.Expressions.{value_for}
use Rattle.qvtr_semantics.specs.Templates.{Values, value_at}
use Rattle.qvtr_semantics.specs.Bindings.{Source}
use Rattle.qvtr_semantics.specs.Calls.{RelationCall, AllAsked, Match, free, with_roots, calls_of}
use Rattle.template_match.specs.declared.join.Join.{Join}
use Rattle.template_match.specs.Joins.{IsRowFor, IsJoined, AreJoined}
use Rattle.template_match.specs.Links.{variable_alone}
use Rattle.template_match.proofs.LinkLaws.{alone_value}
use Rattle.relation_calls.specs.Calm.{AreCalm}
use Rattle.relation_calls.specs.Founds.{AreEnough}
use Rattle.relation_calls.specs.Tables.{row_of, with_arguments, arguments_of, columns_of, AreMatches, IsSound, AreSound}
use Rattle.relation_calls.proofs.CalmLaws.{calm_fine}
use Rattle.relation_calls.proofs.FreedLaws.{nothing_free}
use Rattle.relation_calls.proofs.ListLaws.{before_or_last}
use Rattle.relation_calls.proofs.MadeLaws.{IsMade, made_by, all_given_parts, asked_at}

-- ---- the values of arguments are those of roots

module _ (program : Program) (models : List ModelData) (b : Values) where
  -- an argument that is a variable has its value
  abbrev HasData : Typed → Datum → Type 0
  HasData e d = (v : ℕ) → variable_alone (out-Node e.node) ≡ Some v → value_at b v ≡ Some d

  arguments_have : (args : List Typed) (ds : List Datum) → all_given (map (λ e. datum_of (value_for program models e b)) args) ≡ Some ds → AllZip HasData args ds
  arguments_have [] ds values = subst (λ ys. AllZip HasData [] ys) (same_Some [] ds values) tt
  arguments_have (e ∷ es) ds values =
      let (d, es_data, own, more, same) = all_given_parts (datum_of (value_for program models e b)) (map (λ x. datum_of (value_for program models x b)) es) ds values in
      subst (λ ys. AllZip HasData (e ∷ es) ys) same (λ v alone. sym (alone_value program models e v b alone) ∙ own, arguments_have es es_data more)

  -- where a variable is the argument for a root, that has its value
  abbrev Agree : List (Option ℕ) → Values → Type 0
  Agree places roots = (r v : ℕ) → slice_index_or places r None ≡ Some v → (e : Datum) × (value_at roots r ≡ Some e) × (value_at b v ≡ Some e)

  put_agree : (x : List (Option ℕ)) (y : Values) (r : ℕ) (o : Option ℕ) (d : Datum) → length x ≡ length y → ((v : ℕ) → o ≡ Some v → value_at b v ≡ Some d) → Agree x y
      → Agree (slice_set x r o) (slice_set y r (Some d))
  put_agree [] [] r o d long own before k w h = before k w h
  put_agree [] (q ∷ y) r o d long own before k w h = absurd (omega (arith, long))
  put_agree (p ∷ x) [] r o d long own before k w h = absurd (omega (arith, long))
  put_agree (p ∷ x) (q ∷ y) zero o d long own before zero w h = (d, refl, own w h)
  put_agree (p ∷ x) (q ∷ y) zero o d long own before (suc k) w h = before (suc k) w h
  put_agree (p ∷ x) (q ∷ y) (suc r) o d long own before zero w h = before zero w h
  put_agree (p ∷ x) (q ∷ y) (suc r) o d long own before (suc k) w h = put_agree x y r o d (omega (arith, long)) own (λ j u at. before (suc j) u at) k w h

  roots_agree : (places : List (Option ℕ)) (roots : Values) (doms : List Dom) (args : List Typed) (ds : List Datum) → length places ≡ length roots → AllZip HasData args ds → Agree places roots
      → Agree (with_arguments places doms args) (with_roots roots doms ds)
  roots_agree places roots [] args ds long all before = before
  roots_agree places roots (dom ∷ doms) [] [] long all before = before
  roots_agree places roots (dom ∷ doms) [] (d ∷ ds) long all before = absurd all
  roots_agree places roots (dom ∷ doms) (e ∷ args) [] long all before = absurd all
  roots_agree places roots (dom ∷ doms) (e ∷ args) (d ∷ ds) long all before =
      roots_agree (slice_set places dom.root (variable_alone (out-Node e.node))) (slice_set roots dom.root (Some d)) doms args ds
      (length-set places dom.root (variable_alone (out-Node e.node)) ∙ long ∙ sym (length-set roots dom.root (Some d))) all.1
      (put_agree places roots dom.root (variable_alone (out-Node e.node)) d long all.0 before)

  call_agrees : (called : Rel) (args : List Typed) (ds : List Datum) → AllZip HasData args ds → Agree (arguments_of called args) (with_roots (free called) called.domains ds)
  call_agrees called args ds all =
      roots_agree (replicate (length called.vars) None) (free called) called.domains args ds
      (length-replicate (length called.vars) None ∙ sym (length-replicate (length called.vars) None)) all (λ r v at. absurd (nothing_free (length called.vars) r v at))

  -- ---- rows

  -- the row of a binding with these roots is one for the caller
  row_fits : (places : List (Option ℕ)) (g : Values) → Agree places g → (doms : List Dom) (row : List Datum) → row_of doms g ≡ Some row
      → IsRowFor (map (λ (dom : Dom). slice_index_or places dom.root None) doms) b row
  row_fits places g agree [] row is = tt
  row_fits places g agree (dom ∷ doms) row is =
      let (d, ds, one, rest, same) = all_given_parts (value_at g dom.root) (map (λ (x : Dom). value_at g x.root) doms) row is in
      subst (IsRowFor (map (λ (x : Dom). slice_index_or places x.root None) (dom ∷ doms)) b) same
      (by d ds one (row_fits places g agree doms ds rest) (slice_index_or places dom.root None) refl)
    where
      by : (d : Datum) (ds : List Datum) → value_at g dom.root ≡ Some d → IsRowFor (map (λ (x : Dom). slice_index_or places x.root None) doms) b ds
          → (o : Option ℕ) → slice_index_or places dom.root None ≡ o → IsRowFor (o ∷ map (λ (x : Dom). slice_index_or places x.root None) doms) b (d ∷ ds)
      by d ds one more None at = more
      by d ds one more (Some v) at = let (e, value, own) = agree dom.root v at in (own ∙ sym value ∙ one, more)

-- ---- joins

module _ (program : Program) (models : List ModelData) (number : ℕ) (called : Rel) (found : slice_get program.rels number ≡ Some called) (args : List Typed)
    (join : Join) (matches : AreMatches program models number join.table.now) (columns : join.variables ≡ columns_of called args)
  where
    -- a match of the call is a row
    match_joined : (b : Values) (c : RelationCall) → IsMade program models number (all_given (map (λ e. datum_of (value_for program models e b)) args)) c → Match program models c → IsJoined join b
    match_joined b c m match =
        let one : m.rel ≡ called = same_Some m.rel called (sym m.found ∙ found) in
        let roots : Values = with_roots (free called) called.domains m.arguments in
        let same : c ≡ record { rel = number; roots = roots } = m.is ∙ ap (λ (r : Rel). record { rel = number; roots = with_roots (free r) r.domains m.arguments }) one in
        let (g, stands, extends) = matches called (record { rel = number; roots = roots }) found refl (subst (Match program models) same match) in
        let (row, has, is) = stands in
        let agree = call_agrees program models b called args m.arguments (arguments_have program models b args m.arguments m.given) in
        let fits = row_fits program models b (arguments_of called args) g (λ r v at. let (e, value, own) = agree r v at in (e, extends r e value, own)) called.domains row is in
        (row, has, subst (λ (vs : List (Option ℕ)). IsRowFor vs b row) (sym columns) fits)

    pub join_sound : (clause : List Conj) → Contains clause (conjuncts.Call number args) → IsSound program models clause join
    join_sound clause among b all =
        let (c, makes, match) = asked_at program models b (Match program models) clause (conjuncts.Call number args) all among in
        match_joined b c (made_by program models b number args c makes) match

module _ (program : Program) (models : List ModelData) (clause : List Conj) where
  pub no_joins : (joins : List Join) → joins ≡ [] → AreSound program models clause joins
  no_joins joins none join (k, within, is) = let long = ap length none in absurd (omega (arith, within, long))

  pub more_joins : (joins new : List Join) (join : Join) → new ≡ joins ++ join ∷ [] → AreSound program models clause joins → IsSound program models clause join → AreSound program models clause new
  more_joins joins new join is before here other has = elim (before_or_last joins join other (subst (λ (js : List Join). Contains js other) is has)) [
    | inl earlier ↦ before other earlier
    | inr last ↦ subst (IsSound program models clause) last here
  ]

  pub all_joined : (joins : List Join) → AreSound program models clause joins → (b : Values) → AllAsked (Match program models) (calls_of program models b clause) → AreJoined joins b
  all_joined joins sound b all join has = sound join has b all

-- ---- bindings that are enough

module _ (program : Program) (models : List ModelData) (rel : Rel) (roots : Values) (bs : List Values) where
  -- those that stand in the joins
  pub joined_enough : (joins xs : List Join) → xs ≡ joins → AreSound program models rel.whens joins → AreCalm program rel.whens
      → ((b : Values) → Contains bs b ↔ (Source program models rel roots b × AreJoined xs b)) → AreEnough program models rel roots bs
  joined_enough joins xs same sound calm exact =
      record {
        only = λ b has. ((exact b).0 has).0;
        matched = λ b source all. (exact b).1 (source, subst (λ (js : List Join). AreJoined js b) (sym same) (all_joined program models rel.whens joins sound b all));
        asked = λ b d chain source has seen bad. absurd (calm_fine program models rel.whens calm b d chain has seen bad);
      }

  -- all of them
  pub source_enough : ((b : Values) → Contains bs b ↔ Source program models rel roots b) → AreEnough program models rel roots bs
  source_enough exact =
      record { only = λ b has. (exact b).0 has; matched = λ b source all. (exact b).1 source; asked = λ b d chain source has seen bad. (exact b).1 source }

  pub enough_in : (other : List Values) → other ≡ bs → AreEnough program models rel roots bs → AreEnough program models rel roots other
  enough_in other same enough = subst (AreEnough program models rel roots) (sym same) enough
