-- Clauses of a relation as they are written, and what they resolve to: the variables that occur in them.
use Rattle.std.proofs.Common.{◌≡◌, ℕ, List, [], ◌∷◌, ◌++◌, Bool, true, false, cond, refl, sym, ◌∙◌, ap, subst, map, arith, inl, inr, append-nil}
use Rattle.std.specs.Prelude.{Option, Some, None, Contains, slice_get}
use Rattle.std.specs.List.{flat_map, AllZip, list_all}
use Rattle.std.proofs.lemmas.Option.{same_Some, slice_get_within}
use Rattle.std.proofs.lemmas.Grind.{flat_map-append}
use Rattle.mof_metamodel.proofs.PropLemmas.{to_flat_map, from_flat_map}
use Rattle.qv_syntax.specs.declared.expr.Expr.{Expr, roll-Expr, map-Expr, ind-Expr}
use Rattle.qv_syntax.specs.declared.expr.Infix.{Infix, roll-Infix, map-Infix, fold-roll-Infix}
use Rattle.qv_syntax.specs.declared.expr.Postfix.{Postfix}
use Rattle.qv_syntax.specs.declared.expr.Args.{Args}
use Rattle.qv_syntax.specs.declared.expr.Args.TheOpen as of
use Rattle.qv_syntax.specs.declared.typed.Typed.{Typed}
use Rattle.qv_syntax.specs.declared.script.BlockTree.{BlockTree}
use Rattle.qv_syntax.specs.declared.script.RelationTree.{RelationTree}
use Rattle.qv_syntax.specs.declared.program.Var.{Var}
use Rattle.qv_syntax.specs.declared.program.Conj.{Conj}
use Rattle.qv_syntax.specs.declared.program.Conj.TheVariants as conjs
use Rattle.qv_syntax.specs.Parts.{Names}
use Rattle.qv_syntax.specs.Relations.{InConjunct, IsSubject, OccursInClause}
use Rattle.ocl_types.specs.HasType.{HasTree}
use Rattle.script_scopes.specs.declared.usage.Usage.{Usage}
use Rattle.script_scopes.specs.declared.usage.Usage.TheVariants as usages_of
use Rattle.script_scopes.specs.Usages.{ExprUsages, CallUsages, ArgsUsages, expr_step, infix_step, postfix_step, args_step, infix_usages, usages, variables_in}
use Rattle.script_scopes.specs.Conjuncts.{behind, conjuncts, clause_conjuncts, equation_of}
use Rattle.script_scopes.specs.Occurrences.{clause_variables, variables_of}
use Rattle.script_scopes.specs.Environments.{Setting, in_relation, place_of}
use Rattle.script_scopes.specs.Resolutions.{IsConjunct, AreConjuncts}
use Rattle.script_scopes.proofs.ConjunctLemmas.{by_layer, conjuncts_behind}
use Rattle.script_scopes.proofs.CallRowLaws.{within_some, among_some}
use Rattle.mof_metamodel.proofs.Facts.{contains_at}
use Rattle.qvtr_types.proofs.ZipLemmas.{zip_left, zip_right}
use Rattle.qvtr_types.proofs.well_formed.Numbers.{place_at, name_at, variables_apart}
use Rattle.qvtr_types.proofs.well_formed.Equations.{uses_of, in_uses, uses_in, equation_subject, equation_part, equation_names, call_part, call_names}
use Rattle.qvtr_types.proofs.well_formed.Domains.{tree_names, names_tree}

-- ---- an expression names what its conjuncts name

IsSplit : Expr → Type 0
IsSplit e = flat_map usages (conjuncts e) ≡ usages e

IsLinkSplit : Infix → Type 0
IsLinkSplit l = flat_map usages (behind l).conjuncts ≡ infix_usages l

abbrev HeldExpr : Type 0
HeldExpr = (e : Expr) × IsSplit e

abbrev HeldArgs : Type 0
HeldArgs = (a : Args) × Unit {0}

abbrev HeldCall : Type 0
HeldCall = (k : Postfix) × Unit {0}

abbrev HeldLink : Type 0
HeldLink = (l : Infix) × IsLinkSplit l

abbrev plain : of.Expr-F HeldArgs HeldExpr HeldCall HeldLink → of.Expr-F Args Expr Postfix Infix
plain y = map-Expr HeldArgs HeldExpr HeldCall HeldLink Args Expr Postfix Infix (λ e. e.0) (λ e. e.0) (λ e. e.0) (λ e. e.0) y

links_split : (ls : List HeldLink) → flat_map usages (flat_map (λ (l : Infix). (behind l).conjuncts) (map (λ l. l.0) ls)) ≡ flat_map (λ (us : List Usage). us) (map infix_usages (map (λ l. l.0) ls))
unfolding IsLinkSplit
links_split [] = refl
links_split (l ∷ ls) =
    flat_map-append usages (behind l.0).conjuncts (flat_map (λ (k : Infix). (behind k).conjuncts) (map (λ k. k.0) ls))
    ∙ ap (λ (us : List Usage). us ++ flat_map usages (flat_map (λ (k : Infix). (behind k).conjuncts) (map (λ k. k.0) ls))) l.1
    ∙ ap (λ (us : List Usage). infix_usages l.0 ++ us) (links_split ls)

alone_split : (e : Expr) → conjuncts e ≡ e ∷ [] → IsSplit e
unfolding IsSplit
alone_split e is = ap (flat_map usages) is ∙ append-nil (usages e)

split_layer : (y : of.Expr-F HeldArgs HeldExpr HeldCall HeldLink) → IsSplit (roll-Expr (plain y))
unfolding IsSplit
split_layer (of.Chain first rest span) = by (list_all (λ l. (behind l).is_and) links) refl
  where
    links : List Infix
    links = map (λ l. l.0) rest

    whole : Expr
    whole = roll-Expr (of.Chain first.0 (map (λ l. l.0) rest) span)

    parts : conjuncts whole ≡ cond (list_all (λ l. (behind l).is_and) (map (λ l. l.0) rest)) (conjuncts first.0 ++ flat_map (λ (l : Infix). (behind l).conjuncts) (map (λ l. l.0) rest)) (whole ∷ [])
    parts = by_layer (of.Chain first.0 (map (λ l. l.0) rest) span) whole refl

    by : (b : Bool) → list_all (λ l. (behind l).is_and) (map (λ l. l.0) rest) ≡ b → flat_map usages (conjuncts whole) ≡ usages whole
    by true at =
        ap (flat_map usages) (parts ∙ ap (λ (c : Bool). cond c (conjuncts first.0 ++ flat_map (λ (l : Infix). (behind l).conjuncts) (map (λ l. l.0) rest)) (whole ∷ [])) at)
        ∙ flat_map-append usages (conjuncts first.0) (flat_map (λ (l : Infix). (behind l).conjuncts) (map (λ l. l.0) rest))
        ∙ ap (λ (us : List Usage). us ++ flat_map usages (flat_map (λ (l : Infix). (behind l).conjuncts) (map (λ l. l.0) rest))) first.1
        ∙ ap (λ (us : List Usage). usages first.0 ++ us) (links_split rest)
        ∙ sym (ap (λ (u : ExprUsages). u.usages) (uses_of (of.Chain first.0 (map (λ l. l.0) rest) span)))
    by false at = ap (flat_map usages) (parts ∙ ap (λ (c : Bool). cond c (conjuncts first.0 ++ flat_map (λ (l : Infix). (behind l).conjuncts) (map (λ l. l.0) rest)) (whole ∷ [])) at) ∙ append-nil (usages whole)
split_layer (of.Parens inner span) =
    ap (flat_map usages) (by_layer (of.Parens inner.0 span) (roll-Expr (of.Parens inner.0 span)) refl) ∙ inner.1 ∙ sym (ap (λ (u : ExprUsages). u.usages) (uses_of (of.Parens inner.0 span)))
split_layer (of.Calls inner [] span) =
    ap (flat_map usages) (by_layer (of.Calls inner.0 [] span) (roll-Expr (of.Calls inner.0 [] span)) refl) ∙ inner.1
    ∙ sym (ap (λ (u : ExprUsages). u.usages) (uses_of (of.Calls inner.0 [] span)) ∙ append-nil (usages inner.0))
split_layer y = ap (flat_map usages) (by_layer (plain y) (roll-Expr (plain y)) refl) ∙ append-nil (usages (roll-Expr (plain y)))

link_layer : (y : of.Infix-F HeldArgs HeldExpr HeldCall HeldLink)
    → IsLinkSplit (roll-Infix (map-Infix HeldArgs HeldExpr HeldCall HeldLink Args Expr Postfix Infix (λ e. e.0) (λ e. e.0) (λ e. e.0) (λ e. e.0) y))
unfolding IsSplit IsLinkSplit
link_layer y =
    let l : Infix = record { operator = y.operator; right = y.right.0 } in
    ap (flat_map usages) (conjuncts_behind l) ∙ y.right.1 ∙ sym (fold-roll-Infix ArgsUsages ExprUsages CallUsages (List Usage) args_step expr_step postfix_step infix_step (record { operator = y.operator; right = y.right.0 }))

split_whole : (e : Expr) → IsSplit e
split_whole = ind-Expr (λ a. Unit {0}) IsSplit (λ k. Unit {0}) IsLinkSplit
    (λ x y is. tt) (λ x y is. subst (λ d. IsSplit (roll-Expr d)) is (split_layer y)) (λ x y is. tt) (λ x y is. subst (λ d. IsLinkSplit (roll-Infix d)) is (link_layer y))

-- the conjunct of a clause that names a variable
pub conjunct_naming : (clause : Option BlockTree) (w : List ℕ) → Contains (clause_variables clause) w → (c : Expr) × Contains (clause_conjuncts clause) c × Contains (variables_in c) w
unfolding IsSplit
conjunct_naming (Some block) w has =
    let e = from_flat_map variables_in block.exprs w has in
    let c = from_flat_map usages (conjuncts e.0) (usages_of.Variable w) (subst (λ (us : List Usage). Contains us (usages_of.Variable w)) (sym (split_whole e.0)) (uses_in (usages e.0) w e.2)) in
    (c.0, to_flat_map conjuncts block.exprs e.0 c.0 e.1 c.1, in_uses (usages c.0) w c.2)
conjunct_naming None w (k, l, at) = absurd (omega arith)

pub named_in_clause : (clause : Option BlockTree) (c : Expr) (w : List ℕ) → Contains (clause_conjuncts clause) c → Contains (variables_in c) w → Contains (clause_variables clause) w
unfolding IsSplit
named_in_clause (Some block) c w among has =
    let e = from_flat_map conjuncts block.exprs c among in
    to_flat_map variables_in block.exprs e.0 w e.1 (in_uses (usages e.0) w
    (subst (λ (us : List Usage). Contains us (usages_of.Variable w)) (split_whole e.0) (to_flat_map usages (conjuncts e.0) c (usages_of.Variable w) e.2 (uses_in (usages c) w has))))
named_in_clause None c w (k, l, at) has = absurd (omega arith)

-- ---- conjuncts, one for each

module _ (s : Setting) (r : RelationTree) (vars : List Var) (IsEquation : ℕ → List ℕ → Expr → Type 0) (clause : Option BlockTree) (cs : List Conj)
    (are : AreConjuncts s r vars IsEquation (clause_conjuncts clause) cs)
    (gives : (place : ℕ) (v : List ℕ) (e : Expr) → IsEquation place v e → (c : Expr) × (slice_get (clause_conjuncts clause) place ≡ Some c) × (equation_of c ≡ Some (v, e))) where
  -- the conjunct of the script from which one of the program comes
  pub record IsFrom (place : ℕ) (c : Conj) : Type 0 where
    pub e : Expr
    pub found : slice_get (clause_conjuncts clause) place ≡ Some e
    pub is : IsConjunct s r vars IsEquation place e c

  pub conjunct_from : (place : ℕ) (c : Conj) → slice_get cs place ≡ Some c → IsFrom place c
  conjunct_from place c at =
      let within = slice_get_within cs place c at in
      let count = are.count in
      let e = within_some (clause_conjuncts clause) place (omega (arith, within, count)) in
      record { e = e.0; found = e.1; is = are.each place e.0 c e.1 at }

  pub conjunct_to : (place : ℕ) (e : Expr) → slice_get (clause_conjuncts clause) place ≡ Some e → (c : Conj) × (slice_get cs place ≡ Some c) × IsConjunct s r vars IsEquation place e c
  conjunct_to place e at =
      let within = slice_get_within (clause_conjuncts clause) place e at in
      let count = are.count in
      let c = within_some cs place (omega (arith, within, count)) in
      (c.0, c.1, are.each place e c.0 at c.1)

  -- the equation of a conjunct
  pub equation_at : (place : ℕ) (c : Expr) (v : List ℕ) (e : Expr) → slice_get (clause_conjuncts clause) place ≡ Some c → IsEquation place v e → equation_of c ≡ Some (v, e)
  equation_at place c v e found is = let g = gives place v e is in ap equation_of (same_Some c g.0 (sym found ∙ g.1)) ∙ g.2

  -- a tree among those of expressions is that of one of them
  pub tree_among : (es : List Expr) (ts : List Typed) → AllZip (HasTree (in_relation s r vars)) es ts → (t : Typed) → Contains ts t → (e : Expr) × Contains es e × HasTree (in_relation s r vars) e t
  tree_among es ts all t c =
      let at = among_some ts t c in
      let e = zip_left (HasTree (in_relation s r vars)) es ts at.0 t all at.1 in
      (e.0, contains_at es at.0 e.0 e.1, e.2)

  pub among_trees : (es : List Expr) (ts : List Typed) → AllZip (HasTree (in_relation s r vars)) es ts → (e : Expr) → Contains es e → (t : Typed) × Contains ts t × HasTree (in_relation s r vars) e t
  among_trees es ts all e c =
      let at = among_some es e c in
      let t = zip_right (HasTree (in_relation s r vars)) es ts at.0 e all at.1 in
      (t.0, contains_at ts at.0 t.0 t.1, t.2)

  module _ (v : ℕ) (name : List ℕ) (at : slice_get (variables_of r) v ≡ Some name) (var : Var) (at_var : slice_get vars v ≡ Some var)
      (known : (w : List ℕ) → Contains (clause_variables clause) w → Contains (variables_of r) w) where
    -- what a conjunct names, one of the script names
    named_from : (place : ℕ) (x : Expr) (c : Conj) → slice_get (clause_conjuncts clause) place ≡ Some x → IsConjunct s r vars IsEquation place x c → (e : Typed) → InConjunct c e → Names e v → Contains (variables_in x) name
    named_from place x _ found (IsConjunct.call n args number trees is position all) e has names =
        let a = tree_among args trees all e has in
        call_part x n args is a.0 name a.1 (tree_names s r vars v name at var at_var a.0 e a.2 names)
    named_from place x _ found (IsConjunct.equation w y t is tree) e has names =
        equation_part x w y (equation_at place x w y found is) name (tree_names s r vars v name at var at_var y t tree (subst (λ (z : Typed). Names z v) (sym has) names))
    named_from place x _ found (IsConjunct.condition t none other tree) e has names = tree_names s r vars v name at var at_var x t tree (subst (λ (z : Typed). Names z v) (sym has) names)

    subject_from : (place : ℕ) (x : Expr) (c : Conj) → slice_get (clause_conjuncts clause) place ≡ Some x → IsConjunct s r vars IsEquation place x c → IsSubject c v → Contains (variables_in x) name
    subject_from place x _ found (IsConjunct.call n args number trees is position all) subject = absurd subject
    subject_from place x _ found (IsConjunct.equation w y t is tree) subject =
        let has : Contains (variables_in x) w = equation_subject x w y (equation_at place x w y found is) in
        let there : Contains (variables_of r) w = known w (named_in_clause clause x w (contains_at (clause_conjuncts clause) place x found) has) in
        subst (Contains (variables_in x)) (name_at (variables_of r) v w name there subject at) has
    subject_from place x _ found (IsConjunct.condition t none other tree) subject = absurd subject

    pub clause_from : OccursInClause cs v → Contains (clause_variables clause) name
    clause_from (OccursInClause.subject c among subject) =
        let k = among_some cs c among in
        let x = conjunct_from k.0 c k.1 in
        named_in_clause clause x.e name (contains_at (clause_conjuncts clause) k.0 x.e x.found) (subject_from k.0 x.e c x.found x.is subject)
    clause_from (OccursInClause.expression c e among has names) =
        let k = among_some cs c among in
        let x = conjunct_from k.0 c k.1 in
        named_in_clause clause x.e name (contains_at (clause_conjuncts clause) k.0 x.e x.found) (named_from k.0 x.e c x.found x.is e has names)

    conjunct_occurs : (place : ℕ) (x : Expr) (c : Conj) → slice_get (clause_conjuncts clause) place ≡ Some x → slice_get cs place ≡ Some c → IsConjunct s r vars IsEquation place x c
        → Contains (variables_in x) name → OccursInClause cs v
    conjunct_occurs place x _ found there (IsConjunct.call n args number trees is position all) has =
        let a = call_names x n args is name has in
        let t = among_trees args trees all a.0 a.1 in
        OccursInClause.expression (conjs.Call number trees) t.0 (contains_at cs place (conjs.Call number trees) there) t.1 (names_tree s r vars v name at var at_var a.0 t.0 t.2 a.2)
    conjunct_occurs place x _ found there (IsConjunct.equation w y t is tree) has =
        elim (equation_names x w y (equation_at place x w y found is) name has) [
          | inl same ↦ OccursInClause.subject (conjs.Equation (place_of w (variables_of r)) t) (contains_at cs place (conjs.Equation (place_of w (variables_of r)) t) there)
              (ap (λ (n : List ℕ). place_of n (variables_of r)) same ∙ place_at (variables_of r) (variables_apart s r vars) v name at)
          | inr more ↦ OccursInClause.expression (conjs.Equation (place_of w (variables_of r)) t) t (contains_at cs place (conjs.Equation (place_of w (variables_of r)) t) there) refl
              (names_tree s r vars v name at var at_var y t tree more)
        ]
    conjunct_occurs place x _ found there (IsConjunct.condition t none other tree) has =
        OccursInClause.expression (conjs.Cond t) t (contains_at cs place (conjs.Cond t) there) refl (names_tree s r vars v name at var at_var x t tree has)

    pub clause_to : Contains (clause_variables clause) name → OccursInClause cs v
    clause_to has =
        let x = conjunct_naming clause name has in
        let k = among_some (clause_conjuncts clause) x.0 x.1 in
        let c = conjunct_to k.0 x.0 k.1 in
        conjunct_occurs k.0 x.0 c.0 k.1 c.1 c.2 x.2
