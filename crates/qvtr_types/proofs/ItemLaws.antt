-- Items of a template one behind the other: one more item that is resolved, and its pieces.
use Rattle.std.proofs.Common.{◌≡◌, ℕ, ◌+◌, ◌<◌, List, [], ◌∷◌, ◌++◌, map, drop, get_or, length, sym, ap, subst, ◌∙◌, arith, append_assoc, append-nil}
use Rattle.std.specs.Prelude.{All, Contains}
use Rattle.std.proofs.lemmas.List.{drop_more}
use Rattle.std.proofs.lemmas.List.Elements.{All-append, Contains-append_left, Contains-append_right}
use Rattle.mof_metamodel.specs.declared.desc.ClassId.{ClassId}
use Rattle.qv_syntax.specs.declared.name.Path.{Path}
use Rattle.qv_syntax.specs.declared.script.ItemTree.{ItemTree}
use Rattle.qv_syntax.specs.declared.program.Item.{Item}
use Rattle.ocl_environments.specs.declared.fault.TypeFault.{TypeFault}
use Rattle.script_scopes.specs.Occurrences.{Piece, in_turn, item_pieces}
use Rattle.script_scopes.specs.ResolvedTemplates.{DomainReach, AreItems, IsItem}
use Rattle.qvtr_types.specs.TemplatePieces.{IsMeant, IsPieceFault}

-- the pieces of items from a number on
abbrev pub pieces_from : ℕ → Path → List ItemTree → List Piece
pieces_from k path trees = (in_turn (map item_pieces trees)).from k path

abbrev pub pieces_count : List ItemTree → ℕ
pieces_count trees = (in_turn (map item_pieces trees)).count

pub fault_left : (reach : DomainReach) (xs ys : List Piece) (f : TypeFault) → IsPieceFault reach xs f → IsPieceFault reach (xs ++ ys) f
fault_left reach xs ys f h = record { piece = h.piece; among = Contains-append_left xs ys h.piece h.among; stands = h.stands }

pub fault_right : (reach : DomainReach) (xs ys : List Piece) (f : TypeFault) → IsPieceFault reach ys f → IsPieceFault reach (xs ++ ys) f
fault_right reach xs ys f h = record { piece = h.piece; among = Contains-append_right xs ys h.piece h.among; stands = h.stands }

module _ (reach : DomainReach) (trees : List ItemTree) (i : ℕ) (tree : ItemTree) (within : i < length trees) (is : tree ≡ get_or trees i tree) (k middle : ℕ) where
  here : drop i trees ≡ tree ∷ drop (i + 1) trees
  here = drop_more trees i tree within ∙ ap (λ (t : ItemTree). t ∷ drop (i + 1) trees) (sym is)

  -- the items before are resolved, whatever comes behind them
  pub are_more : (class : ClassId) (first : ℕ) (items : List Item) (item : Item)
      → ((rest : List Item) (next : ℕ) → AreItems reach class k (drop i trees) rest next → AreItems reach class first trees (items ++ rest) next)
      → IsItem reach class k tree item middle
      → (rest : List Item) (next : ℕ) → AreItems reach class middle (drop (i + 1) trees) rest next → AreItems reach class first trees ((items ++ item ∷ []) ++ rest) next
  are_more class first items item before one rest next more =
      subst (λ (xs : List Item). AreItems reach class first trees xs next) (sym (append_assoc items (item ∷ []) rest))
      (before (item ∷ rest) next (subst (λ (ts : List ItemTree). AreItems reach class k ts (item ∷ rest) next) (sym here)
      (AreItems.one_more class k middle next tree (drop (i + 1) trees) item rest one more)))

  module _ (after : middle ≡ k + (item_pieces tree).count) where
    pub next_more : (last : ℕ) → k + pieces_count (drop i trees) ≡ last → middle + pieces_count (drop (i + 1) trees) ≡ last
    next_more last before =
        let count : k + pieces_count (drop i trees) ≡ k + ((item_pieces tree).count + pieces_count (drop (i + 1) trees)) = ap (λ (ts : List ItemTree). k + pieces_count ts) here in
        omega (arith, after, before, count)

    pieces_here : (path : Path) → pieces_from k path (drop i trees) ≡ (item_pieces tree).from k path ++ pieces_from middle path (drop (i + 1) trees)
    pieces_here path = ap (pieces_from k path) here ∙ ap (λ (n : ℕ). (item_pieces tree).from k path ++ pieces_from n path (drop (i + 1) trees)) (sym after)

    pub meant_more : (path : Path) (all : List Piece) → (All (IsMeant reach) (pieces_from k path (drop i trees)) → All (IsMeant reach) all) → All (IsMeant reach) ((item_pieces tree).from k path)
        → All (IsMeant reach) (pieces_from middle path (drop (i + 1) trees)) → All (IsMeant reach) all
    meant_more path all before one more =
        before (subst (All (IsMeant reach)) (sym (pieces_here path)) (All-append (IsMeant reach) ((item_pieces tree).from k path) (pieces_from middle path (drop (i + 1) trees)) one more))

    pub fault_more : (path : Path) (all : List Piece) → ((f : TypeFault) → IsPieceFault reach (pieces_from k path (drop i trees)) f → IsPieceFault reach all f)
        → (f : TypeFault) → IsPieceFault reach (pieces_from middle path (drop (i + 1) trees)) f → IsPieceFault reach all f
    fault_more path all before f h =
        before f (subst (λ (ps : List Piece). IsPieceFault reach ps f) (sym (pieces_here path)) (fault_right reach ((item_pieces tree).from k path) (pieces_from middle path (drop (i + 1) trees)) f h))

  -- a fault of the item itself
  pub fault_here : (path : Path) (all : List Piece) → ((f : TypeFault) → IsPieceFault reach (pieces_from k path (drop i trees)) f → IsPieceFault reach all f)
      → (f : TypeFault) → IsPieceFault reach ((item_pieces tree).from k path) f → IsPieceFault reach all f
  fault_here path all before f h =
      before f (subst (λ (ps : List Piece). IsPieceFault reach ps f) (sym (ap (pieces_from k path) here))
      (fault_left reach ((item_pieces tree).from k path) (pieces_from (k + (item_pieces tree).count) path (drop (i + 1) trees)) f h))

-- behind the last item
pub are_all : (reach : DomainReach) (class : ClassId) (first k : ℕ) (trees rest : List ItemTree) (items : List Item) → rest ≡ []
    → ((more : List Item) (next : ℕ) → AreItems reach class k rest more next → AreItems reach class first trees (items ++ more) next) → AreItems reach class first trees items k
are_all reach class first k trees rest items none before =
    subst (λ (xs : List Item). AreItems reach class first trees xs k) (append-nil items)
    (before [] k (subst (λ (ts : List ItemTree). AreItems reach class k ts [] k) (sym none) (AreItems.none class k)))
