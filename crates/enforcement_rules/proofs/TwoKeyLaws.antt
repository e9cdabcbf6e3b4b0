-- E7: marks from classes that have keys down tell whether a class conforms to two of them.
use Rattle.std.proofs.Common.{◌≡◌, ◌≢◌, ◌<◌, ◌≤◌, ◌⊎◌, ◌+◌, ◌++◌, ℕ, zero, suc, Bool, true, false, List, [], ◌∷◌, Option, None, Some, refl, sym, ap, ◌∙◌, subst, inl, inr, ⊎_elim, arith, true≢false, length, set, replicate}
use Rattle.std.specs.Prelude.{Contains, ◌↔◌, IsTrue, not, nat_eq, filter_map, if◌then◌else◌}
use Rattle.std.proofs.lemmas.Bool.{cases_order, cases_lt, eqb-true, eq-eqb}
use Rattle.std.proofs.lemmas.Option.{same_Some, none-some}
use Rattle.std.proofs.lemmas.List.{get_or-set_same, get_or-set_other, length-set, length-map, length-replicate, length-append, get_or_past}
use Rattle.std.proofs.lemmas.List.Elements.{Contains-append_left, Contains-append_right, Contains-append_cases}
use Rattle.mof_metamodel.specs.declared.desc.MetaDesc.{MetaDesc}
use Rattle.mof_metamodel.specs.declared.desc.ClassDesc.{ClassDesc}
use Rattle.mof_metamodel.specs.declared.desc.ClassId.{ClassId}
use Rattle.mof_metamodel.specs.Metamodels.{class_count, class_number, no_class, supers_of, Conforms, IsPath}
use Rattle.mof_metamodel.proofs.LineageLemmas.{supers_within, Has-from_Contains}
use Rattle.mof_metamodel.proofs.PropLemmas.{to_flat_map, from_flat_map}
use Rattle.qv_syntax.specs.declared.program.Program.{Program}
use Rattle.qv_syntax.specs.declared.program.Key.{Key}
use Rattle.ocl_environments.specs.Environments.{meta_at}
use Rattle.call_graph.specs.Graphs.{Graph, neighbours}
use Rattle.enforcement_rules.specs.Edges.{Edge, edges_to, BeginWithin, HasEdges}
use Rattle.enforcement_rules.specs.Keys.{IsKeyOf, HasTwoKeys}
use Rattle.enforcement_rules.specs.KeyTables.{IsKeyWithin}
use Rattle.enforcement_rules.specs.TargetParts.{target_meta}
use Rattle.enforcement_rules.specs.TwoKeys.{AreBelowEdges, AreBelow, keyed_class, keyed_classes, own_pair, own_pairs, Marks, mark_at, marked, more_pending, has_other, IsMarkable, IsTold, IsMarking, MeetsTwo, open_row, open_rows, weight}
use Rattle.enforcement_rules.proofs.EdgeLaws.{edge_to, to_edge}
use Rattle.enforcement_rules.proofs.ListLaws.{first_in, nothing_in, only_in, same_or_not, everywhere}

-- ---- the classes below each

super_within : (desc : MetaDesc) (c d : ℕ) → Contains (supers_of desc c) d → (c < class_count desc) × (d < class_count desc)
super_within desc c d among = (by (cases_lt c (class_count desc)), supers_within desc c d (Has-from_Contains (supers_of desc c) d among))
  where
    by : (c < class_count desc) ⊎ (class_count desc ≤ c) → c < class_count desc
    by (inl less) = less
    by (inr past) =
        absurd (nothing_in d (subst (λ (k : ClassDesc). Contains (filter_map (class_number desc) k.supers) d) (get_or_past desc.classes c no_class past) among))

pub below_none : (desc : MetaDesc) (edges : List Edge) → edges ≡ [] → AreBelowEdges desc 0 edges
below_none desc edges empty = subst (AreBelowEdges desc 0) (sym empty) (record { there = λ c d less has. absurd (omega arith); only = λ c d among. absurd (nothing_in (d, c) among) })

pub below_more : (desc : MetaDesc) (c : ℕ) (edges next : List Edge) → AreBelowEdges desc c edges → next ≡ edges ++ edges_to c (supers_of desc c) → AreBelowEdges desc (c + 1) next
below_more desc c edges next so put = subst (AreBelowEdges desc (c + 1)) (sym put) (record {
  there = λ b d less has. ⊎_elim
      (λ (same : b ≡ c). Contains-append_right edges (edges_to c (supers_of desc c)) (d, b)
      (subst (λ (x : ℕ). Contains (edges_to c (supers_of desc c)) (d, x)) (sym same) (edge_to c (supers_of desc c) d (subst (λ (x : ℕ). Contains (supers_of desc x) d) same has))))
      (λ (other : (b < c) ⊎ (c < b)). Contains-append_left edges (edges_to c (supers_of desc c)) (d, b)
      (so.there b d (⊎_elim (λ (l : b < c). l) (λ (m : c < b). absurd (omega arith)) other) has))
      (cases_order b c);
  only = λ b d among. ⊎_elim
      (λ (old : Contains edges (d, b)). let o = so.only b d old in let l : b < c + 1 = omega (arith, o.0) in (l, o.1))
      (λ (new : Contains (edges_to c (supers_of desc c)) (d, b)).
      let t = to_edge c (supers_of desc c) (d, b) new in
      let l : b < c + 1 = omega (arith, t.0) in
      (l, subst (λ (x : ℕ). Contains (supers_of desc x) d) (sym t.0) t.1))
      (Contains-append_cases edges (edges_to c (supers_of desc c)) (d, b) among);
})

module _ (desc : MetaDesc) (count : ℕ) (edges : List Edge) (same : count ≡ class_count desc) (so : AreBelowEdges desc count edges) where
  pub below_begins : BeginWithin count edges
  below_begins e among = let o = so.only e.1 e.0 among in subst (λ (n : ℕ). e.0 < n) (sym same) (super_within desc e.1 e.0 o.1).1

  pub below_are : (g : Graph) → HasEdges count edges g → AreBelow desc g
  below_are g h = record {
    long = h.long ∙ same;
    there = λ c d has. h.there d c (so.there c d (subst (λ (n : ℕ). c < n) (sym same) (super_within desc c d has).0) has);
    only = λ c d among. let o = so.only c d (h.only d c among) in (subst (λ (n : ℕ). c < n) same o.0, o.1);
  }

-- ---- what is left to do falls

open_set : (marks : Marks) (below : Graph) (c k : ℕ) → c < length marks → length below ≡ length marks → mark_at marks c ≡ None
    → open_rows (set marks c (Some k)) below + length (neighbours below c) ≡ open_rows marks below
open_set [] below c k less long none = absurd (omega (arith, less))
open_set (mark ∷ marks) [] c k less long none = absurd (omega (arith, long))
open_set (mark ∷ marks) (row ∷ below) zero k less long none =
    let e : open_row mark row ≡ length row = ap (λ (m : Option ℕ). open_row m row) none in
    omega (arith, e)
open_set (mark ∷ marks) (row ∷ below) (suc c) k less long none =
    let e = open_set marks below c k (omega (arith, less)) (omega (arith, long)) none in
    omega (arith, e)

-- ---- one step

module _ (below : Graph) (marks : Marks) (pending rest : List Edge) (p : Edge) (is : pending ≡ rest ++ p ∷ []) (m : IsMarkable below marks pending) where
  popped : Contains pending p
  popped = subst (λ (es : List Edge). Contains es p) (sym is) (Contains-append_right rest (p ∷ []) p (first_in p p [] refl))

  left : (q : Edge) → Contains rest q → Contains pending q
  left q among = subst (λ (es : List Edge). Contains es q) (sym is) (Contains-append_left rest (p ∷ []) q among)

  either : (q : Edge) → Contains pending q → Contains rest q ⊎ (p ≡ q)
  either q among = ⊎_elim
      (λ (old : Contains rest q). inl old)
      (λ (new : Contains (p ∷ []) q). inr (only_in p q new))
      (Contains-append_cases rest (p ∷ []) q (subst (λ (es : List Edge). Contains es q) is among))

  pub popped_within : p.0 < length marks
  popped_within = m.waiting p popped

  abbrev edges : List Edge
  edges = edges_to p.1 (neighbours below p.0)

  module _ (o : Option ℕ) where
    abbrev new_marks : Marks
    new_marks = marked marks p.0 p.1 o

    abbrev new_pending : List Edge
    new_pending = more_pending below rest p.0 p.1 o

  still_long : (o : Option ℕ) → length (new_marks o) ≡ length marks
  still_long None = length-set marks p.0 (Some p.1)
  still_long (Some other) = refl

  still_waiting : (o : Option ℕ) (q : Edge) → Contains (new_pending o) q → q.0 < length marks
  still_waiting None q among = ⊎_elim
      (λ (old : Contains rest q). m.waiting q (left q old))
      (λ (new : Contains edges q). m.below_within p.0 q.0 (to_edge p.1 (neighbours below p.0) q new).1)
      (Contains-append_cases rest edges q among)
  still_waiting (Some other) q among = m.waiting q (left q among)

  still : (o : Option ℕ) → IsMarkable below (new_marks o) (new_pending o)
  still o = record {
    long = m.long ∙ sym (still_long o);
    waiting = λ q among. subst (λ (n : ℕ). q.0 < n) (sym (still_long o)) (still_waiting o q among);
    below_within = λ v w h. subst (λ (n : ℕ). w < n) (sym (still_long o)) (m.below_within v w h);
  }

  pending_long : length pending ≡ length rest + 1
  pending_long = ap length is ∙ length-append rest (p ∷ [])

  falls : (o : Option ℕ) → mark_at marks p.0 ≡ o → weight below (new_marks o) (new_pending o) < weight below marks pending
  falls None none =
      let e = open_set marks below p.0 p.1 popped_within m.long none in
      let l : length (rest ++ edges) ≡ length rest + length (neighbours below p.0) = length-append rest edges ∙ ap (λ (n : ℕ). length rest + n) (length-map (neighbours below p.0) (λ (v : ℕ). let d : Edge = (v, p.1) in d)) in
      omega (arith, e, l, pending_long)
  falls (Some other) some = omega (arith, pending_long)

  module _ (after : Marks) (later : List Edge) (so : after ≡ new_marks (mark_at marks p.0)) (put : later ≡ new_pending (mark_at marks p.0)) where
    pub step_markable : IsMarkable below after later
    step_markable = subst (λ (ms : Marks). IsMarkable below ms later) (sym so)
        (subst (λ (es : List Edge). IsMarkable below (new_marks (mark_at marks p.0)) es) (sym put) (still (mark_at marks p.0)))

    pub step_falls : weight below after later < weight below marks pending
    step_falls = subst (λ (ms : Marks). weight below ms later < weight below marks pending) (sym so)
        (subst (λ (es : List Edge). weight below (new_marks (mark_at marks p.0)) es < weight below marks pending) (sym put) (falls (mark_at marks p.0) refl))

  module _ (desc : MetaDesc) (keyed : List ℕ) (graph : AreBelow desc below) (mk : IsMarking desc keyed marks pending) where
    told : Contains keyed p.1 × Conforms desc p.0 p.1
    told = mk.waiting p popped

    -- a class that isn't marked yet
    module _ (none : mark_at marks p.0 ≡ None) where
      abbrev fresh : Marks
      fresh = set marks p.0 (Some p.1)

      mark_same : mark_at fresh p.0 ≡ Some p.1
      mark_same = get_or-set_same marks p.0 (Some p.1) None popped_within

      mark_other : (c : ℕ) → c ≢ p.0 → mark_at fresh c ≡ mark_at marks c
      mark_other c other = get_or-set_other marks p.0 c (Some p.1) None other

      -- what is marked now was marked before, or it is the class
      marked_either : (c k : ℕ) → mark_at fresh c ≡ Some k → ((c ≡ p.0) × (p.1 ≡ k)) ⊎ (mark_at marks c ≡ Some k)
      marked_either c k h = ⊎_elim
          (λ (same : c ≡ p.0). inl (same, same_Some p.1 k (sym mark_same ∙ ap (mark_at fresh) (sym same) ∙ h)))
          (λ (other : c ≢ p.0). inr (sym (mark_other c other) ∙ h))
          (same_or_not c p.0)

      still_told : (c k : ℕ) → IsTold marks pending c k → IsTold fresh (rest ++ edges) c k
      still_told c k (IsTold.by_mark h) = ⊎_elim
          (λ (same : c ≡ p.0). absurd (none-some k (sym none ∙ ap (mark_at marks) (sym same) ∙ h)))
          (λ (other : c ≢ p.0). IsTold.by_mark (mark_other c other ∙ h))
          (same_or_not c p.0)
      still_told c k (IsTold.waits among) = ⊎_elim
          (λ (old : Contains rest (c, k)). IsTold.waits (Contains-append_left rest edges (c, k) old))
          (λ (same : p ≡ (c, k)). IsTold.by_mark (ap (mark_at fresh) (sym (ap (λ (e : Edge). e.0) same)) ∙ mark_same ∙ ap (λ (e : Edge). let o : Option ℕ = Some e.1 in o) same))
          (either (c, k) among)

      marked_on : IsMarking desc keyed fresh (rest ++ edges)
      marked_on = record {
        long = length-set marks p.0 (Some p.1) ∙ mk.long;
        sound = λ c k h. ⊎_elim
            (λ (new : (c ≡ p.0) × (p.1 ≡ k)). subst (λ (x : ℕ). Contains keyed k × Conforms desc x k) (sym new.0) (subst (λ (j : ℕ). Contains keyed j × Conforms desc p.0 j) new.1 told))
            (λ (old : mark_at marks c ≡ Some k). mk.sound c k old)
            (marked_either c k h);
        waiting = λ q among. ⊎_elim
            (λ (old : Contains rest q). mk.waiting q (left q old))
            (λ (new : Contains edges q).
            let t = to_edge p.1 (neighbours below p.0) q new in
            let up : Contains (supers_of desc q.0) p.0 = (graph.only q.0 p.0 t.1).1 in
            subst (λ (k : ℕ). Contains keyed k × Conforms desc q.0 k) (sym t.0) (told.0, (p.0 ∷ told.1.0, (up, told.1.1))))
            (Contains-append_cases rest edges q among);
        own = λ k has. still_told k k (mk.own k has);
        closed = λ b c k h up. ⊎_elim
            (λ (new : (c ≡ p.0) × (p.1 ≡ k)).
            let row : Contains (neighbours below p.0) b = graph.there b p.0 (subst (Contains (supers_of desc b)) new.0 up) in
            IsTold.waits (Contains-append_right rest edges (b, k) (subst (λ (j : ℕ). Contains edges (b, j)) new.1 (edge_to p.1 (neighbours below p.0) b row))))
            (λ (old : mark_at marks c ≡ Some k). still_told b k (mk.closed b c k old up))
            (marked_either c k h);
      }

    -- a class that is marked with the same
    module _ (other : ℕ) (some : mark_at marks p.0 ≡ Some other) (same_one : other ≡ p.1) where
      told_still : (c k : ℕ) → IsTold marks pending c k → IsTold marks rest c k
      told_still c k (IsTold.by_mark h) = IsTold.by_mark h
      told_still c k (IsTold.waits among) = ⊎_elim
          (λ (old : Contains rest (c, k)). IsTold.waits old)
          (λ (same : p ≡ (c, k)). IsTold.by_mark (ap (mark_at marks) (sym (ap (λ (e : Edge). e.0) same)) ∙ some ∙ ap (λ (j : ℕ). let o : Option ℕ = Some j in o) (same_one ∙ ap (λ (e : Edge). e.1) same)))
          (either (c, k) among)

      passed_on : IsMarking desc keyed marks rest
      passed_on = record {
        long = mk.long;
        sound = mk.sound;
        waiting = λ q among. mk.waiting q (left q among);
        own = λ k has. told_still k k (mk.own k has);
        closed = λ b c k h up. told_still b k (mk.closed b c k h up);
      }

    goes_on : (o : Option ℕ) → mark_at marks p.0 ≡ o → has_other p.1 o ≡ false → IsMarking desc keyed (new_marks o) (new_pending o)
    goes_on None none h = marked_on none
    goes_on (Some other) some h = passed_on other some (same_one (nat_eq other p.1) refl h)
      where
        same_one : (b : Bool) → nat_eq other p.1 ≡ b → not b ≡ false → other ≡ p.1
        same_one true e g = eqb-true other p.1 e
        same_one false e g = absurd (true≢false g)

    meets : (o : Option ℕ) → mark_at marks p.0 ≡ o → has_other p.1 o ≡ true → MeetsTwo desc keyed
    meets None none h = absurd (true≢false (sym h))
    meets (Some other) some h = record {
      class = p.0;
      within = subst (λ (n : ℕ). p.0 < n) mk.long popped_within;
      first = other;
      first_keyed = (mk.sound p.0 other some).0;
      first_conforms = (mk.sound p.0 other some).1;
      second = p.1;
      second_keyed = told.0;
      second_conforms = told.1;
      two = λ same. true≢false (sym h ∙ ap not (eq-eqb other p.1 same));
    }

    pub step_marking : (after : Marks) (later : List Edge) (b : Bool) → after ≡ new_marks (mark_at marks p.0) → later ≡ new_pending (mark_at marks p.0)
        → b ≡ has_other p.1 (mark_at marks p.0) → b ≡ false → IsMarking desc keyed after later
    step_marking after later b so put other is_false = subst (λ (ms : Marks). IsMarking desc keyed ms later) (sym so)
        (subst (λ (es : List Edge). IsMarking desc keyed (new_marks (mark_at marks p.0)) es) (sym put) (goes_on (mark_at marks p.0) refl (sym other ∙ is_false)))

    pub step_meets : (b : Bool) → b ≡ has_other p.1 (mark_at marks p.0) → b ≡ true → MeetsTwo desc keyed
    step_meets b other is_true = meets (mark_at marks p.0) refl (sym other ∙ is_true)

-- ---- the end

module _ (desc : MetaDesc) (keyed : List ℕ) (marks : Marks) (mk : IsMarking desc keyed marks []) where
  is_marked : (c k : ℕ) → IsTold marks [] c k → mark_at marks c ≡ Some k
  is_marked c k (IsTold.by_mark h) = h
  is_marked c k (IsTold.waits among) = absurd (nothing_in (c, k) among)

  reached : (path : List ℕ) (c k : ℕ) → IsPath desc c path k → Contains keyed k → mark_at marks c ≡ Some k
  reached [] c k same has = ap (mark_at marks) same ∙ is_marked k k (mk.own k has)
  reached (e ∷ path) c k (up, on) has = is_marked c k (mk.closed c e k (reached path e k on has) up)

  pub meets_none : ¬ MeetsTwo desc keyed
  meets_none t =
      t.two (same_Some t.first t.second (sym (reached t.first_conforms.0 t.class t.first t.first_conforms.1 t.first_keyed) ∙ reached t.second_conforms.0 t.class t.second t.second_conforms.1 t.second_keyed))

  pub not_met : IsTrue false ↔ MeetsTwo desc keyed
  not_met = (λ t. absurd (true≢false (sym t)), λ t. absurd (meets_none t))

-- ---- the begin

module _ (desc : MetaDesc) (below : Graph) (marks : Marks) (keyed : List ℕ) (graph : AreBelow desc below) (empty : marks ≡ replicate (length below) None)
    (inside : (k : ℕ) → Contains keyed k → k < class_count desc) where
  begun_long : length marks ≡ length below
  begun_long = ap length empty ∙ length-replicate (length below) None

  no_mark : (c : ℕ) → mark_at marks c ≡ None
  no_mark c = ap (λ (ms : Marks). mark_at ms c) empty ∙ everywhere (length below) c None

  pair_there : (q : Edge) → Contains (own_pairs keyed) q → Contains keyed q.1 × (q.0 ≡ q.1)
  pair_there q among =
      let f = from_flat_map own_pair keyed q among in
      let same : (f.0, f.0) ≡ q = only_in (f.0, f.0) q f.2 in
      (subst (Contains keyed) (ap (λ (e : Edge). e.1) same) f.1, sym (ap (λ (e : Edge). e.0) same) ∙ ap (λ (e : Edge). e.1) same)

  pub begin_markable : IsMarkable below marks (own_pairs keyed)
  begin_markable = record {
    long = sym begun_long;
    waiting = λ q among. let t = pair_there q among in subst (λ (n : ℕ). q.0 < n) (sym (begun_long ∙ graph.long)) (subst (λ (k : ℕ). k < class_count desc) (sym t.1) (inside q.1 t.0));
    below_within = λ v w h. subst (λ (n : ℕ). w < n) (sym (begun_long ∙ graph.long)) (graph.only w v h).0;
  }

  pub begin_marking : IsMarking desc keyed marks (own_pairs keyed)
  begin_marking = record {
    long = begun_long ∙ graph.long;
    sound = λ c k h. absurd (none-some k (sym (no_mark c) ∙ h));
    waiting = λ q among. let t = pair_there q among in (t.0, ([], t.1));
    own = λ k has. IsTold.waits (to_flat_map own_pair keyed k (k, k) has (first_in (k, k) (k, k) [] refl));
    closed = λ b c k h up. absurd (none-some k (sym (no_mark c) ∙ h));
  }

-- ---- of the keys of a program

module _ (program : Program) (number : ℕ) where
  keyed_from : (k : ℕ) → Contains (keyed_classes number program.keys) k → (key : Key) × Contains program.keys key × (key.meta ≡ number) × (key.class.0 ≡ k)
  keyed_from k among =
      let f = from_flat_map (keyed_class number) program.keys k among in
      let g = by f.0 (nat_eq f.0.meta number) refl f.2 in
      (f.0, f.1, g.0, g.1)
    where
      by : (key : Key) (b : Bool) → nat_eq key.meta number ≡ b → Contains (if b then key.class.0 ∷ [] else []) k → (key.meta ≡ number) × (key.class.0 ≡ k)
      by key true e c = (eqb-true key.meta number e, only_in key.class.0 k c)
      by key false e c = absurd (nothing_in k c)

  keyed_in : (key : Key) → Contains program.keys key → key.meta ≡ number → Contains (keyed_classes number program.keys) key.class.0
  keyed_in key among same = to_flat_map (keyed_class number) program.keys key key.class.0 among
      (subst (λ (b : Bool). Contains (if b then key.class.0 ∷ [] else []) key.class.0) (sym (eq-eqb key.meta number same)) (first_in key.class.0 key.class.0 [] refl))

  pub keyed_within : (desc : MetaDesc) → ((key : Key) → Contains program.keys key → IsKeyWithin desc number (class_count desc) key)
      → (k : ℕ) → Contains (keyed_classes number program.keys) k → k < class_count desc
  keyed_within desc inside k among =
      let f = keyed_from k among in
      subst (λ (c : ℕ). c < class_count desc) f.3 ((inside f.0 f.1).class f.2)

module _ (metas : List MetaDesc) (program : Program) where
  abbrev number : ℕ
  number = target_meta program

  two_there : MeetsTwo (meta_at metas number) (keyed_classes number program.keys) → HasTwoKeys metas program
  two_there t =
      let f = keyed_from program number t.first t.first_keyed in
      let s = keyed_from program number t.second t.second_keyed in
      record {
        class = t.class;
        within = t.within;
        first = f.0.class;
        first_key = f.0;
        first_is = record { among = f.1; meta = f.2; of = refl };
        first_conforms = subst (Conforms (meta_at metas number) t.class) (sym f.3) t.first_conforms;
        second = s.0.class;
        second_key = s.0;
        second_is = record { among = s.1; meta = s.2; of = refl };
        second_conforms = subst (Conforms (meta_at metas number) t.class) (sym s.3) t.second_conforms;
        two = λ same. t.two (sym f.3 ∙ ap (λ (c : ClassId). c.0) same ∙ s.3);
      }

  class_in : (class : ClassId) (key : Key) → IsKeyOf program class key → Contains (keyed_classes number program.keys) class.0
  class_in class key is = subst (λ (c : ClassId). Contains (keyed_classes number program.keys) c.0) is.of (keyed_in program number key is.among is.meta)

  there_two : HasTwoKeys metas program → MeetsTwo (meta_at metas number) (keyed_classes number program.keys)
  there_two h = record {
    class = h.class;
    within = h.within;
    first = h.first.0;
    first_keyed = class_in h.first h.first_key h.first_is;
    first_conforms = h.first_conforms;
    second = h.second.0;
    second_keyed = class_in h.second h.second_key h.second_is;
    second_conforms = h.second_conforms;
    two = λ same. h.two (ap (λ (c : ℕ). let d : ClassId = record { 0 = c } in d) same);
  }

  pub two_told : (b : Bool) (m : ℕ) → m ≡ number → IsTrue b ↔ MeetsTwo (meta_at metas m) (keyed_classes m program.keys) → IsTrue b ↔ HasTwoKeys metas program
  two_told b m same told =
      let t : IsTrue b ↔ MeetsTwo (meta_at metas number) (keyed_classes number program.keys) =
      subst (λ (n : ℕ). IsTrue b ↔ MeetsTwo (meta_at metas n) (keyed_classes n program.keys)) same told in
      (λ h. two_there (t.0 h), λ h. t.1 (there_two h))

  pub two_told_of : (m : ℕ) → m ≡ number → (desc : MetaDesc) → desc ≡ meta_at metas m → (keyed : List ℕ) → keyed ≡ keyed_classes m program.keys → (b : Bool) → IsTrue b ↔ MeetsTwo desc keyed
      → IsTrue b ↔ HasTwoKeys metas program
  two_told_of m same desc read keyed are b told =
      two_told b m same (subst (λ (d : MetaDesc). IsTrue b ↔ MeetsTwo d (keyed_classes m program.keys)) read (subst (λ (ks : List ℕ). IsTrue b ↔ MeetsTwo desc ks) are told))

  pub keyed_within_of : (m : ℕ) (desc : MetaDesc) → desc ≡ meta_at metas m → (keyed : List ℕ) → keyed ≡ keyed_classes m program.keys
      → ((key : Key) → Contains program.keys key → IsKeyWithin (meta_at metas m) m (class_count (meta_at metas m)) key) → (k : ℕ) → Contains keyed k → k < class_count desc
  keyed_within_of m desc read keyed are inside k among =
      subst (λ (d : MetaDesc). k < class_count d) (sym read) (keyed_within program m (meta_at metas m) inside k (subst (λ (ks : List ℕ). Contains ks k) are among))
