-- What a reading leaves open can be ended: how that follows for readings that are put together.
use Rattle.std.proofs.Common.{◌≡◌, ℕ, ◌+◌, ◌-◌, ◌<◌, ◌≤◌, ◌⊎◌, inl, inr, Bool, true, false, nat_lt, max, List, [], ◌∷◌, ◌++◌, length, slice_get, Some, Result, Ok, Err, ap, sym, ◌∙◌, refl, subst, arith, true≢false, length-append}
use Rattle.std.specs.Prelude.{if◌then◌else◌}
use Rattle.std.proofs.lemmas.Bool.Decides.{nat_tests}
use Rattle.ql_lex.specs.Lexed.{Lexeme}
use Rattle.ql_lex.specs.Lexemes.{stands}
use Rattle.ql_lex.proofs.TokenLaws.{stands_some}
use Rattle.ocl_parser.specs.Beginnings.{opens}
use Rattle.ocl_parser.specs.Readings.{and_then, token_read}
use Rattle.ocl_parser.specs.declared.halt.Stop.{Stop}
use Rattle.ocl_parser.specs.declared.halt.Stop.TheVariants as stops
use Rattle.qvtr_parser.proofs.ApartLaws.{apart_at}
use Rattle.qvtr_parser.proofs.FoundLaws.{inverted}
use Rattle.qvtr_parser.proofs.Told.{Levels, Reading, Same, Told, followed, itself, loosen, number_of, same_less, same_stands, sequence, told_by, token_told, whole}

-- ---- tokens that stand one behind the other

-- these stand from number i on
abbrev pub Has : List Lexeme → ℕ → List Lexeme → Type 0
Has us i [] = Unit {0}
Has us i (l ∷ ls) = (slice_get us i ≡ Some l) × Has us (i + 1) ls

pub has_parts : (us a b : List Lexeme) (i : ℕ) → Has us i (a ++ b) → Has us i a × Has us (i + length a) b
has_parts us [] b i h = (let same : i ≡ i + 0 = omega arith in (tt, subst (λ (k : ℕ). Has us k b) same h))
has_parts us (l ∷ a) b i h =
    let r = has_parts us a b (i + 1) h.1 in
    let same : i + 1 + length a ≡ i + length (l ∷ a) = omega arith in
    ((h.0, r.0), subst (λ (k : ℕ). Has us k b) same r.1)

-- ---- what follows

abbrev pub Anything : List Lexeme → ℕ → Type 0
Anything us j = Unit {0}

-- no token that passes the test
abbrev pub NoNext : (Lexeme → Bool) → List Lexeme → ℕ → Type 0
NoNext passes us j = stands passes us j ≡ false

-- a token that passes it
abbrev pub Next : (Lexeme → Bool) → List Lexeme → ℕ → Type 0
Next passes us j = stands passes us j ≡ true

-- ---- what is known of a reading

-- it reads these tokens where they stand and what follows may follow, with so many levels at least
pub record Whole {Y : Type 0} (at : Y → ℕ) (Free : List Lexeme → ℕ → Type 0) (least : ℕ) (short : List Lexeme) (i : ℕ) (m : Reading Y) : Type 0 where
  pub reads : (us : List Lexeme) (n : ℕ) → least ≤ n → Has us i short → Free us (i + length short) → (y : Y) × (m us n ≡ Ok y) × (at y ≡ i + length short)

-- What it read before the token of number k, at which it is stuck, is ended by these tokens, within enough levels: with those that
-- are left where the last of them opened one, if so many are.
pub record Ending {Y : Type 0} (at : Y → ℕ) (Free : List Lexeme → ℕ → Type 0) (reserve : ℕ) (ts : List Lexeme) (n : ℕ) (m : Reading Y) (k : ℕ) : Type 0 where
  pub more : List Lexeme
  pub enough : ℕ
  pub shallow : stands opens ts (k - 1) ≡ true → reserve ≤ n → enough ≤ n
  pub ends : (us : List Lexeme) (v : ℕ) → enough ≤ v → Same ts us k → Has us k more → Free us (k + length more) → (y : Y) × (m us v ≡ Ok y) × (at y ≡ k + length more)

-- in one text, with so many levels left
pub record Ended {Y : Type 0} (at : Y → ℕ) (Free : List Lexeme → ℕ → Type 0) (reserve : ℕ) (ts : List Lexeme) (n i : ℕ) (m : Reading Y) : Type 0 where
  pub cut : (us : List Lexeme) (w : ℕ) (y : Y) → m ts n ≡ Ok y → Same ts us (at y) → Free us (at y) → n ≤ w → m us w ≡ Ok y
  pub ends : (k : ℕ) → i < k → m ts n ≡ Err (stops.Stuck k) → Ending at Free reserve ts n m k
  pub deeper : (k : ℕ) → m ts n ≡ Err (stops.Deep k) → (w : ℕ) × ((v : ℕ) → w ≤ v → k < number_of at (m ts v))

-- all of it, the last where this holds
pub record Part {Y : Type 0} (If : Type 0) (at : Y → ℕ) (Free : List Lexeme → ℕ → Type 0) (least reserve : ℕ) (short : List Lexeme) (step : ℕ) (ts : List Lexeme) (n i : ℕ) (m : Reading Y) : Type 0 where
  pub told : Told (λ n. Unit {0}) at step i m
  pub whole : Whole at Free least short i m
  pub ended : If → Ended at Free reserve ts n i m

pub same_answer : {Y : Type 0} {at : Y → ℕ} {step i : ℕ} {m : Reading Y} → Told (λ n. Unit {0}) at step i m → (ts us : List Lexeme) (n w : ℕ) (y : Y) → m ts n ≡ Ok y → Same ts us (at y + 1) → n ≤ w → m us w ≡ Ok y
same_answer {Y} {at} {step} {i} {m} t ts us n w y e same wide =
    let here : Same ts us (number_of at (m ts n) + 1) = subst (λ (q : Result Y Stop). Same ts us (number_of at q + 1)) (sym e) same in
    let levels : Levels n w (m ts n) = subst (Levels n w) (sym e) wide in
    t.alike ts us n w tt here levels ∙ e

-- ---- one reading behind another

-- what follows both, behind the shortest second or none, may follow the first
pub record Meets (First : List Lexeme → ℕ → Type 0) (step : ℕ) (short : List Lexeme) (Free : List Lexeme → ℕ → Type 0) : Type 0 where
  pub after : (us : List Lexeme) (j : ℕ) → Has us j short → Free us (j + length short) → First us j
  pub none : (us : List Lexeme) (j : ℕ) → Free us j → (1 ≤ step) ⊎ First us j

pub meets_free : {step : ℕ} {short : List Lexeme} {Free : List Lexeme → ℕ → Type 0} → Meets Anything step short Free
meets_free = record { after = λ us j has follow. tt; none = λ us j follow. inr tt }

pub meets_first : {First : List Lexeme → ℕ → Type 0} {step : ℕ} {l : Lexeme} {ls : List Lexeme} {Free : List Lexeme → ℕ → Type 0} → ((us : List Lexeme) (j : ℕ) → slice_get us j ≡ Some l → First us j) → 1 ≤ step → Meets First step (l ∷ ls) Free
meets_first first some = record { after = λ us j has follow. first us j has.0; none = λ us j follow. inl some }

pub meets_end : {First : List Lexeme → ℕ → Type 0} {step : ℕ} {Free : List Lexeme → ℕ → Type 0} → ((us : List Lexeme) (j : ℕ) → Free us j → First us j) → Meets First step [] Free
meets_end {First} {step} {Free} in_ = record {
  after = λ us j has follow. (let same : j + 0 ≡ j = omega arith in in_ us j (subst (λ (k : ℕ). Free us k) same follow));
  none = λ us j follow. inr (in_ us j follow);
}

-- no token that it reads opens a level
abbrev pub Calm : {Y : Type 0} → (Y → ℕ) → List Lexeme → ℕ → ℕ → Reading Y → Type 0
Calm at ts n i m = (j : ℕ) → i ≤ j → j < number_of at (m ts n) → stands opens ts j ≡ false

pub sequence_whole : {X Y : Type 0} {atX : X → ℕ} {atY : Y → ℕ} {FreeM FreeK : List Lexeme → ℕ → Type 0} {leastM leastK a b i : ℕ} {shortM shortK : List Lexeme} {m : Reading X} {k : X → Reading Y} (least : ℕ) → leastM ≤ least → leastK ≤ least
    → Told (λ n. Unit {0}) atX a i m → Whole atX FreeM leastM shortM i m → ((x : X) → i + a ≤ atX x → Whole atY FreeK leastK shortK (atX x) (k x)) → Meets FreeM b shortK FreeK
    → Whole atY FreeK least (shortM ++ shortK) i (followed m k)
sequence_whole {X} {Y} {atX} {atY} {FreeM} {FreeK} {leastM} {leastK} {a} {b} {i} {shortM} {shortK} {m} {k} least fewM fewK t first then_ meets = record {
  reads = λ us n few has follow. (
      let h = has_parts us shortM shortK i has in
      let long : i + length (shortM ++ shortK) ≡ i + length shortM + length shortK = omega (arith, length-append shortM shortK) in
      let there : FreeK us (i + length shortM + length shortK) = subst (λ (j : ℕ). FreeK us j) long follow in
      let x = first.reads us n (omega (arith, few, fewM)) h.0 (meets.after us (i + length shortM) h.1 there) in
      let h_here : Has us (atX x.0) shortK = subst (λ (j : ℕ). Has us j shortK) (sym x.2) h.1 in
      let f_here : FreeK us (atX x.0 + length shortK) = subst (λ (j : ℕ). FreeK us (j + length shortK)) (sym x.2) there in
      let z = (then_ x.0 (t.further us n tt x.0 x.1)).reads us n (omega (arith, few, fewK)) h_here f_here in
      let at_end : atY z.0 ≡ i + length (shortM ++ shortK) = omega (arith, z.2, x.2, long) in
      (z.0, ap (λ (q : Result X Stop). and_then q (λ x. k x us n)) x.1 ∙ z.1, at_end));
}

pub sequence_ended : {X Y : Type 0} {If : Type 0} {atX : X → ℕ} {atY : Y → ℕ} {FreeM FreeK : List Lexeme → ℕ → Type 0} {leastK resM resK a b n i : ℕ} {shortK ts : List Lexeme} {m : Reading X} {k : X → Reading Y} (r : ℕ) → resM ≤ r → resK ≤ r → If
    → Told (λ n. Unit {0}) atX a i m → Ended atX FreeM resM ts n i m → ((x : X) → i + a ≤ atX x → Part If atY FreeK leastK resK shortK b ts n (atX x) (k x)) → Meets FreeM b shortK FreeK → (leastK ≤ r) ⊎ Calm atX ts n i m
    → Ended atY FreeK r ts n i (followed m k)
sequence_ended {X} {Y} {If} {atX} {atY} {FreeM} {FreeK} {leastK} {resM} {resK} {a} {b} {n} {i} {shortK} {ts} {m} {k} r keptM keptK if_ t first then_ meets lead = record {
  cut = λ us w z h same follow wide. cut_by us w z (inverted (m ts n) (λ x. k x ts n) z h) same follow wide;
  ends = λ j less h. ends_by j less (m ts n) refl h;
  deeper = λ j h. deeper_by j (m ts n) refl h;
}
  where
    cut_by : (us : List Lexeme) (w : ℕ) (z : Y) → (x : X) × (m ts n ≡ Ok x) × (k x ts n ≡ Ok z) → Same ts us (atY z) → FreeK us (atY z) → n ≤ w → and_then (m us w) (λ x. k x us w) ≡ Ok z
    cut_by us w z s same follow wide =
        let far : i + a ≤ atX s.0 = t.further ts n tt s.0 s.1 in
        let p = then_ s.0 far in
        let on : atX s.0 + b ≤ atY z = p.told.further ts n tt z s.2 in
        ap (λ (q : Result X Stop). and_then q (λ x. k x us w)) (first_is on (nat_lt (atX s.0) (atY z)) refl) ∙ (p.ended if_).cut us w z s.2 same follow wide
      where
        first_is : atX s.0 + b ≤ atY z → (d : Bool) → nat_lt (atX s.0) (atY z) ≡ d → m us w ≡ Ok s.0
        first_is on true d =
            let less : atX s.0 + 1 ≤ atY z = grind (arith, nat_tests) in
            same_answer t ts us n w s.0 s.1 (same_less ts us (atX s.0 + 1) (atY z) less same) wide
        first_is on false d =
            let not_less : atY z ≤ atX s.0 = grind (arith, nat_tests) in
            let here : atY z ≡ atX s.0 = omega (arith, on, not_less) in
            let same_here : Same ts us (atX s.0) = subst (λ (j : ℕ). Same ts us j) here same in
            elim (meets.none us (atX s.0) (subst (λ (j : ℕ). FreeK us j) here follow)) [
              | inl some ↦ absurd (omega (arith, some, on, here))
              | inr f ↦ first.cut us w s.0 s.1 same_here f wide
            ]

    enough_for : (j : ℕ) → i < j → j ≤ number_of atX (m ts n) → stands opens ts (j - 1) ≡ true → r ≤ n → leastK ≤ n
    enough_for j less within o h = elim lead [
      | inl few ↦ omega (arith, few, h)
      | inr calm ↦ absurd (true≢false (sym o ∙ calm (j - 1) (omega (arith, less)) (omega (arith, less, within))))
    ]

    -- behind the first, the shortest second
    then_short : (us : List Lexeme) (v j : ℕ) (x : X) → m us v ≡ Ok x → atX x ≡ j → leastK ≤ v → Has us j shortK → FreeK us (j + length shortK)
        → (z : Y) × (and_then (m us v) (λ x. k x us v) ≡ Ok z) × (atY z ≡ j + length shortK)
    then_short us v j x e here few has follow =
        let h : Has us (atX x) shortK = subst (λ (l : ℕ). Has us l shortK) (sym here) has in
        let f : FreeK us (atX x + length shortK) = subst (λ (l : ℕ). FreeK us (l + length shortK)) (sym here) follow in
        let z = (then_ x (t.further us v tt x e)).whole.reads us v few h f in
        (z.0, ap (λ (q : Result X Stop). and_then q (λ x. k x us v)) e ∙ z.1, z.2 ∙ ap (λ (l : ℕ). l + length shortK) here)

    first_stuck : (j : ℕ) → i < j → m ts n ≡ Err (stops.Stuck j) → Ending atY FreeK r ts n (followed m k) j
    first_stuck j less e =
        let g = first.ends j less e in
        let within : j ≤ number_of atX (m ts n) = (let same : number_of atX (m ts n) ≡ j = ap (number_of atX) e in omega (arith, same)) in
        record {
          more = g.more ++ shortK;
          enough = max g.enough leastK;
          shallow = λ o h. omega (arith, g.shallow o (omega (arith, h, keptM)), enough_for j less within o h);
          ends = λ us v en same has follow. (
              let h = has_parts us g.more shortK j has in
              let long : j + length (g.more ++ shortK) ≡ j + length g.more + length shortK = omega (arith, length-append g.more shortK) in
              let there : FreeK us (j + length g.more + length shortK) = subst (λ (l : ℕ). FreeK us l) long follow in
              let x = g.ends us v (omega (arith, en)) same h.0 (meets.after us (j + length g.more) h.1 there) in
              let z = then_short us v (j + length g.more) x.0 x.1 x.2 (omega (arith, en)) h.1 there in
              (z.0, z.1, z.2 ∙ sym long));
        }

    ends_by : (j : ℕ) → i < j → (q : Result X Stop) → m ts n ≡ q → and_then q (λ x. k x ts n) ≡ Err (stops.Stuck j) → Ending atY FreeK r ts n (followed m k) j
    ends_by j less (Err s) e h = first_stuck j less (e ∙ (let same : s ≡ stops.Stuck j = cc in ap (λ (x : Stop). Err x) same))
    ends_by j less (Ok x) e h = by (nat_lt (atX x) j) refl
      where
        far : i + a ≤ atX x
        far = t.further ts n tt x e

        p : Part If atY FreeK leastK resK shortK b ts n (atX x) (k x)
        p = then_ x far

        by : (d : Bool) → nat_lt (atX x) j ≡ d → Ending atY FreeK r ts n (followed m k) j
        by true d =
            let past : atX x < j = grind (arith, nat_tests) in
            let g = (p.ended if_).ends j past h in
            record {
              more = g.more;
              enough = max n g.enough;
              shallow = λ o h. omega (arith, g.shallow o (omega (arith, h, keptK)));
              ends = λ us v en same has follow. (
                  let first_is : m us v ≡ Ok x = same_answer t ts us n v x e (same_less ts us (atX x + 1) j (omega (arith, past)) same) (omega (arith, en)) in
                  let z = g.ends us v (omega (arith, en)) same has follow in
                  (z.0, ap (λ (q : Result X Stop). and_then q (λ x. k x us v)) first_is ∙ z.1, z.2));
            }
        by false d =
            let on : atX x ≤ j = subst (λ (q : Result Y Stop). atX x ≤ number_of atY q) h (p.told.on ts n tt) in
            let not_less : j ≤ atX x = grind (arith, nat_tests) in
            let here : atX x ≡ j = omega (arith, on, not_less) in
            let within : j ≤ number_of atX (m ts n) = (let same : number_of atX (m ts n) ≡ atX x = ap (number_of atX) e in omega (arith, same, here)) in
            record {
              more = shortK;
              enough = max n leastK;
              shallow = λ o h. omega (arith, enough_for j less within o h);
              ends = λ us v en same has follow. (
                  let f : FreeM us (atX x) = subst (λ (l : ℕ). FreeM us l) (sym here) (meets.after us j has follow) in
                  let s : Same ts us (atX x) = subst (λ (l : ℕ). Same ts us l) (sym here) same in
                  then_short us v j x (first.cut us v x e s f (omega (arith, en))) here (omega (arith, en)) has follow);
            }

    deeper_by : (j : ℕ) (q : Result X Stop) → m ts n ≡ q → and_then q (λ x. k x ts n) ≡ Err (stops.Deep j)
        → (w : ℕ) × ((v : ℕ) → w ≤ v → j < number_of atY (and_then (m ts v) (λ x. k x ts v)))
    deeper_by j (Err s) e h =
        let d = first.deeper j (e ∙ (let same : s ≡ stops.Deep j = cc in ap (λ (x : Stop). Err x) same)) in
        (d.0, λ v few. past v (m ts v) refl (d.1 v few))
      where
        past : (v : ℕ) (q : Result X Stop) → m ts v ≡ q → j < number_of atX q → j < number_of atY (and_then q (λ x. k x ts v))
        past v (Ok x) g less = omega (arith, less, (then_ x (t.further ts v tt x g)).told.on ts v tt)
        past v (Err s) g less = less
    deeper_by j (Ok x) e h =
        let d = ((then_ x (t.further ts n tt x e)).ended if_).deeper j h in (
          n + d.0,
          λ v few. (
              let first_is : m ts v ≡ Ok x = same_answer t ts ts n v x e refl (omega (arith, few)) in
              subst (λ (q : Result X Stop). j < number_of atY (and_then q (λ x. k x ts v))) (sym first_is) (d.1 v (omega (arith, few)))),
        )

pub sequence_part : {X Y : Type 0} {If : Type 0} {atX : X → ℕ} {atY : Y → ℕ} {FreeM FreeK : List Lexeme → ℕ → Type 0} {leastM leastK resM resK a b n i : ℕ} {shortM shortK ts : List Lexeme} {m : Reading X} {k : X → Reading Y} (least r : ℕ)
    → leastM ≤ least → leastK ≤ least → resM ≤ r → resK ≤ r
    → Part If atX FreeM leastM resM shortM a ts n i m → ((x : X) → i + a ≤ atX x → Part If atY FreeK leastK resK shortK b ts n (atX x) (k x)) → Meets FreeM b shortK FreeK → (leastK ≤ r) ⊎ Calm atX ts n i m
    → Part If atY FreeK least r (shortM ++ shortK) (a + b) ts n i (followed m k)
sequence_part least r fewM fewK keptM keptK first then_ meets lead = record {
  told = sequence first.told (λ x far. (then_ x far).told);
  whole = sequence_whole least fewM fewK first.told first.whole (λ x far. (then_ x far).whole) meets;
  ended = λ if_. sequence_ended r keptM keptK if_ first.told (first.ended if_) then_ meets lead;
}

-- ---- single readings

pub done_part : {A : Type 0} {If : Type 0} {Free : List Lexeme → ℕ → Type 0} {ts : List Lexeme} {n : ℕ} (end : ℕ) (f : List Lexeme → A) → ((ts us : List Lexeme) → Same ts us end → f us ≡ f ts) → Part If (λ (y : A × ℕ). y.1) Free 0 0 [] 0 ts n end (λ ts n. Ok (f ts, end))
done_part {A} {If} {Free} {ts} {n} end f same = record {
  told = whole end f (λ ts us s. same ts us (same_less ts us end (end + 1) (omega arith) s));
  whole = record { reads = λ us n few has follow. (let here : end ≡ end + 0 = omega arith in ((f us, end), refl, here)) };
  ended = λ if_. record {
    cut = λ us w y e s follow wide. (
        let here : end ≡ y.1 = cc in
        ap (λ (x : A). Ok (x, end)) (same ts us (subst (λ (j : ℕ). Same ts us j) (sym here) s)) ∙ e);
    ends = λ k less e. cc;
    deeper = λ k e. cc;
  };
}

pub token_part : {If : Type 0} {ts : List Lexeme} {n : ℕ} (passes : Lexeme → Bool) (l : Lexeme) → passes l ≡ true → (i : ℕ) → Part If itself Anything 0 0 (l ∷ []) 1 ts n i (λ ts n. token_read passes ts i)
token_part {If} {ts} {n} passes l p i = record {
  told = token_told passes i;
  whole = record { reads = λ us n few has follow. (let s : stands passes us i ≡ true = stands_some passes us i l has.0 ∙ p in (i + 1, rw s refl, refl)) };
  ended = λ if_. record {
    cut = λ us w y e same follow wide. cut_by us (stands passes ts i) refl y e same;
    ends = λ k less e. ends_by k less (stands passes ts i) e;
    deeper = λ k e. deeper_by k (stands passes ts i) e;
  };
}
  where
    cut_by : (us : List Lexeme) (b : Bool) → stands passes ts i ≡ b → (y : ℕ) → (if b then Ok (i + 1) else Err (stops.Stuck i)) ≡ Ok y → Same ts us y → token_read passes us i ≡ Ok y
    cut_by us true s y e same =
        let here : i + 1 ≡ y = cc in
        let t : stands passes us i ≡ true = same_stands passes ts us y i (omega (arith, here)) same ∙ s in
        rw t (ap (λ (j : ℕ). Ok j) here)
    cut_by us false s y e same = cc

    ends_by : (k : ℕ) → i < k → (b : Bool) → (if b then Ok (i + 1) else Err (stops.Stuck i)) ≡ Err (stops.Stuck k) → Ending itself Anything 0 ts n (λ ts n. token_read passes ts i) k
    ends_by k less true e = cc
    ends_by k less false e = (let here : i ≡ k = cc in absurd (omega (arith, less, here)))

    deeper_by : (k : ℕ) (b : Bool) → (if b then Ok (i + 1) else Err (stops.Stuck i)) ≡ Err (stops.Deep k) → (w : ℕ) × ((v : ℕ) → w ≤ v → k < number_of itself (token_read passes ts i))
    deeper_by k true e = cc
    deeper_by k false e = cc

pub token_calm : (passes : Lexeme → Bool) → ((l : Lexeme) → passes l ≡ true → opens l ≡ false) → (ts : List Lexeme) (n i : ℕ) → Calm itself ts n i (λ ts n. token_read passes ts i)
token_calm passes apart ts n i j from less = by (stands passes ts i) refl less
  where
    by : (b : Bool) → stands passes ts i ≡ b → j < number_of itself (if b then Ok (i + 1) else Err (stops.Stuck i)) → stands opens ts j ≡ false
    by true s h =
        let here : i ≡ j = omega (arith, from, h) in
        subst (λ (x : ℕ). stands opens ts x ≡ false) here (apart_at passes opens apart ts i s)
    by false s h = absurd (omega (arith, from, h))

-- ---- the same with other numbers

pub tuned : {Y : Type 0} {If : Type 0} {at : Y → ℕ} {Free : List Lexeme → ℕ → Type 0} {least reserve step n i : ℕ} {short ts : List Lexeme} {m : Reading Y} (Fewer : List Lexeme → ℕ → Type 0) (l r s : ℕ)
    → ((us : List Lexeme) (j : ℕ) → Fewer us j → Free us j) → least ≤ l → reserve ≤ r → s ≤ step → Part If at Free least reserve short step ts n i m → Part If at Fewer l r short s ts n i m
tuned {Y} {If} {at} {Free} {least} {reserve} {step} {n} {i} {short} {ts} {m} Fewer l r s in_ few kept far p = record {
  told = loosen s far p.told;
  whole = record { reads = λ us n enough has follow. p.whole.reads us n (omega (arith, few, enough)) has (in_ us (i + length short) follow) };
  ended = λ if_. record {
    cut = λ us w y e same follow wide. (p.ended if_).cut us w y e same (in_ us (at y) follow) wide;
    ends = λ k less e. (
        let g = (p.ended if_).ends k less e in
        record {
          more = g.more;
          enough = g.enough;
          shallow = λ o h. g.shallow o (omega (arith, kept, h));
          ends = λ us v en same has follow. g.ends us v en same has (in_ us (k + length g.more) follow);
        });
    deeper = (p.ended if_).deeper;
  };
}

-- two readings that are the same
pub ended_by : {Y : Type 0} {at : Y → ℕ} {Free : List Lexeme → ℕ → Type 0} {reserve n i : ℕ} {ts : List Lexeme} {m o : Reading Y} → ((ts : List Lexeme) (n : ℕ) → m ts n ≡ o ts n) → Ended at Free reserve ts n i m → Ended at Free reserve ts n i o
ended_by {Y} {at} {Free} {reserve} {n} {i} {ts} {m} {o} equal p = record {
  cut = λ us w y e same follow wide. sym (equal us w) ∙ p.cut us w y (equal ts n ∙ e) same follow wide;
  ends = λ k less e. (
      let g = p.ends k less (equal ts n ∙ e) in
      record {
        more = g.more;
        enough = g.enough;
        shallow = g.shallow;
        ends = λ us v en same has follow. (let y = g.ends us v en same has follow in (y.0, sym (equal us v) ∙ y.1, y.2));
      });
  deeper = λ k e. (let d = p.deeper k (equal ts n ∙ e) in (d.0, λ v few. subst (λ (q : Result Y Stop). k < number_of at q) (equal ts v) (d.1 v few)));
}

pub whole_by : {Y : Type 0} {at : Y → ℕ} {Free : List Lexeme → ℕ → Type 0} {least i : ℕ} {short : List Lexeme} {m o : Reading Y} → ((ts : List Lexeme) (n : ℕ) → m ts n ≡ o ts n) → Whole at Free least short i m → Whole at Free least short i o
whole_by equal p = record { reads = λ us n few has follow. (let y = p.reads us n few has follow in (y.0, sym (equal us n) ∙ y.1, y.2)) }

pub part_by : {Y : Type 0} {If : Type 0} {at : Y → ℕ} {Free : List Lexeme → ℕ → Type 0} {least reserve step n i : ℕ} {short ts : List Lexeme} {m o : Reading Y} → ((ts : List Lexeme) (n : ℕ) → m ts n ≡ o ts n)
    → Part If at Free least reserve short step ts n i m → Part If at Free least reserve short step ts n i o
part_by equal p = record { told = told_by equal p.told; whole = whole_by equal p.whole; ended = λ if_. ended_by equal (p.ended if_) }

-- a reading of fewer tokens at least
pub one_token : {Y : Type 0} {If : Type 0} {at : Y → ℕ} {Free : List Lexeme → ℕ → Type 0} {least reserve step n i : ℕ} {short ts : List Lexeme} {m : Reading Y} → 1 ≤ step → Part If at Free least reserve short step ts n i m → Part If at Free least reserve short 1 ts n i m
one_token some p = record { told = loosen 1 some p.told; whole = p.whole; ended = p.ended }

-- one reading behind another, both with the same levels
pub then_part : {X Y : Type 0} {If : Type 0} {atX : X → ℕ} {atY : Y → ℕ} {FreeM FreeK : List Lexeme → ℕ → Type 0} {a b n i : ℕ} {shortM shortK ts : List Lexeme} {m : Reading X} {k : X → Reading Y} (least r : ℕ) → least ≤ r
    → Part If atX FreeM least r shortM a ts n i m → ((x : X) → i + a ≤ atX x → Part If atY FreeK least r shortK b ts n (atX x) (k x)) → Meets FreeM b shortK FreeK → Part If atY FreeK least r (shortM ++ shortK) (a + b) ts n i (followed m k)
then_part least r fits first then_ meets = sequence_part least r (omega arith) (omega arith) (omega arith) (omega arith) first then_ meets (inl fits)
