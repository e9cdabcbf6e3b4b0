-- The variables in reach that an expression names are those that its typed tree names. By induction on the expression.
use Rattle.std.proofs.Common.{◌≡◌, ◌<◌, ℕ, zero, suc, Bool, true, false, List, [], ◌∷◌, ◌++◌, length, refl, sym, ◌∙◌, ap, subst, arith, inl, inr}
use Rattle.std.specs.Prelude.{◌≢◌, Contains}
use Rattle.std.proofs.lemmas.Bool.{false≢true}
use Rattle.std.proofs.lemmas.List.Elements.{Contains-append_left, Contains-append_right, Contains-append_cases}
use Rattle.qv_syntax.specs.declared.ty.Ty.{Ty}
use Rattle.qv_syntax.specs.declared.typed.Typed.{Typed}
use Rattle.qv_syntax.specs.declared.typed.Node.{Node, out-Node, out-roll-Node}
use Rattle.qv_syntax.specs.declared.typed.Node.TheVariants as nodes
use Rattle.qv_syntax.specs.declared.typed.Call.{Call}
use Rattle.qv_syntax.specs.declared.typed.Call.TheOpen as layers
use Rattle.qv_syntax.specs.declared.typed.TypedInfix.{TypedInfix}
use Rattle.qv_syntax.specs.declared.typed.TypedPostfix.{TypedPostfix}
use Rattle.qv_syntax.specs.Parts.{IsWithin, Names, parts_of, node_parts}
use Rattle.ocl_environments.specs.Environments.{Environment}
use Rattle.mof_metamodel.proofs.Facts.{nothing_in}
use Rattle.script_scopes.specs.declared.usage.Usage.{Usage}
use Rattle.script_scopes.specs.declared.usage.Usage.TheVariants as usages_of
use Rattle.mof_metamodel.proofs.Facts.{only_one}
use Rattle.qvtr_types.specs.TypedUsages.{HasNumber}

-- ---- lists

pub alone : {X : Type 0} (x : X) → Contains (x ∷ []) x
alone x = (0, omega arith, refl)

-- ---- usages and trees

-- one of these trees names the variable
abbrev pub NamedIn : List Typed → ℕ → Type 0
NamedIn trees number = (t : Typed) × Contains trees t × Names t number

-- the variables in reach that the trees name are those that are used
pub record AreSame (env : Environment) (us : List Usage) (trees : List Typed) : Type 0 where
  pub listed : (name : List ℕ) → Contains us (usages_of.Variable name) → (number : ℕ) × HasNumber env name number × NamedIn trees number
  pub named : (number : ℕ) → number < length env.variables → NamedIn trees number → (name : List ℕ) × HasNumber env name number × Contains us (usages_of.Variable name)

pub no_names : (env : Environment) → AreSame env [] []
no_names env = record {
  listed = λ name c. absurd (nothing_in (usages_of.Variable name) c);
  named = λ number within h. absurd (nothing_in h.0 h.1);
}

pub beside : (env : Environment) (us ws : List Usage) (ts rs : List Typed) → AreSame env us ts → AreSame env ws rs → AreSame env (us ++ ws) (ts ++ rs)
beside env us ws ts rs one other = record {
  listed = λ name c. elim (Contains-append_cases us ws (usages_of.Variable name) c) [
    | inl left ↦ let h = one.listed name left in (h.0, h.1, (h.2.0, Contains-append_left ts rs h.2.0 h.2.1, h.2.2))
    | inr right ↦ let h = other.listed name right in (h.0, h.1, (h.2.0, Contains-append_right ts rs h.2.0 h.2.1, h.2.2))
  ];
  named = λ number within h. elim (Contains-append_cases ts rs h.0 h.1) [
    | inl left ↦ let n = one.named number within (h.0, left, h.2) in (n.0, n.1, Contains-append_left us ws (usages_of.Variable n.0) n.2)
    | inr right ↦ let n = other.named number within (h.0, right, h.2) in (n.0, n.1, Contains-append_right us ws (usages_of.Variable n.0) n.2)
  ];
}

-- ---- a tree by its parts

abbrev pub Layer : Type 0
Layer = layers.Node-F Call Node Typed TypedInfix TypedPostfix

abbrev pub is_variable : Layer → Bool
is_variable (layers.Variable number) = true
is_variable d = false

within_parts : (e x : Typed) (number : ℕ) → ((v : ℕ) → e.node ≢ nodes.Variable v) → x.node ≡ nodes.Variable number → IsWithin e x
    → (part : Typed) × Contains (parts_of e) part × IsWithin part x
within_parts e x number apart is (IsWithin.whole y) = absurd (apart number is)
within_parts e x number apart is (IsWithin.inside y part inner c w) = (part, c, w)

pub out_variable : (number : ℕ) → out-Node (nodes.Variable number) ≡ layers.Variable number
out_variable number = ap out-Node (sym (nodes.rolls-Variable number)) ∙ out-roll-Node (layers.Variable number)

pub variable_number : (a b : ℕ) → nodes.Variable a ≡ nodes.Variable b → a ≡ b
variable_number a b same = let layer = sym (out_variable a) ∙ ap out-Node same ∙ out_variable b in cc

-- a node that is no variable names what its parts name
pub by_parts : (env : Environment) (us : List Usage) (ty : Ty) (node : Node) (d : Layer) → out-Node node ≡ d → is_variable d ≡ false
    → AreSame env us (node_parts d) → AreSame env us (record { ty = ty; node = node } ∷ [])
by_parts env us ty node d is other same = record {
  listed = λ name c.
      let h = same.listed name c in
      let names : Names e h.0 = (h.2.2.0, IsWithin.inside e h.2.0 _ (subst (λ (x : Layer). Contains (node_parts x) h.2.0) (sym is) h.2.1) h.2.2.1) in
      (h.0, h.1, (e, alone e, names));
  named = λ number within h.
      let x : Typed = record { ty = h.2.0; node = nodes.Variable number } in
      let w : IsWithin e x = subst (λ (t : Typed). IsWithin t x) (sym (only_one e h.0 h.1)) h.2.1 in
      let p = within_parts e x number apart refl w in
      same.named number within (p.0, subst (λ (x : Layer). Contains (node_parts x) p.0) is p.1, (h.2.0, p.2));
}
  where
    e : Typed
    e = record { ty = ty; node = node }

    apart : (v : ℕ) → node ≢ nodes.Variable v
    apart v same = false≢true (sym other ∙ ap is_variable (sym is ∙ ap out-Node same ∙ out_variable v))
