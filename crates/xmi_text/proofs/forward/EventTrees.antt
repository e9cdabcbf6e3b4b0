-- What the pieces of a document say are the events of a tree.
use Rattle.std.proofs.Common.{◌≡◌, ℕ, List, [], ◌∷◌, ◌++◌, map, refl, sym, ◌∙◌, ap, append_assoc}
use Rattle.xmi_text.specs.Trees.{Nodes, Ends, Run, Element, Tree, Event, Opens, Says, Closes, events_of, events}
use Rattle.xmi_text.specs.Markup.{pair, Piece, Characters, Referred, Cdata, Comment, Instruction, StartTag, EmptyTag, EndTag, open_behind, Closing, IsRoot, all_said, say, joined_runs}

-- each tag that opens is closed, and nothing stands behind the last
Balanced : List (List ℕ) → List Event → Type 0
Balanced [] [] = Unit {0}
Balanced [] (e ∷ es) = ⊥
Balanced (n ∷ names) [] = ⊥
Balanced (n ∷ names) (Opens name attrs ∷ es) = Balanced (name ∷ n ∷ names) es
Balanced (n ∷ names) (Says cs ∷ es) = Balanced (n ∷ names) es
Balanced (n ∷ names) (Closes ∷ es) = Balanced names es

-- the nodes of each open element, the innermost first
Forest : List (List ℕ) → List Event → Type 0
Forest [] es = es ≡ []
Forest (n ∷ names) es = (nodes : Nodes) × (rest : List Event) × (Forest names rest) × (events_of nodes ++ Closes ∷ rest ≡ es)

forest : (names : List (List ℕ)) (es : List Event) → Balanced names es → Forest names es
unfolding Balanced Forest
forest [] [] b = refl
forest [] (e ∷ es) b = absurd b
forest (n ∷ names) [] b = absurd b
forest (n ∷ names) (Closes ∷ es) b = (Ends, es, forest names es b, refl)
forest (n ∷ names) (Says cs ∷ es) b =
    let f = forest (n ∷ names) es b in
    (Run cs f.0, f.1, f.2, ap (λ x. Says cs ∷ x) f.3)
forest (n ∷ names) (Opens name attrs ∷ es) b =
    let f = forest (name ∷ n ∷ names) es b in
    let inner : Nodes = f.0 in
    let g = f.2 in
    let outer : Nodes = g.0 in (
      Element name attrs inner outer,
      g.1,
      g.2,
      ap (λ x. Opens name attrs ∷ x)
          (append_assoc (events_of inner) (Closes ∷ events_of outer) (Closes ∷ g.1)
          ∙ ap (λ x. events_of inner ++ Closes ∷ x) g.3
          ∙ f.3),
    )

say_balanced : (n : List ℕ) (names : List (List ℕ)) (cs : List ℕ) (es : List Event) → Balanced (n ∷ names) es → Balanced (n ∷ names) (say cs es)
unfolding Balanced
say_balanced n names cs [] b = absurd b
say_balanced n names cs (Says ds ∷ es) b = b
say_balanced n names [] (Opens name attrs ∷ es) b = b
say_balanced n names (c ∷ cs) (Opens name attrs ∷ es) b = b
say_balanced n names [] (Closes ∷ es) b = b
say_balanced n names (c ∷ cs) (Closes ∷ es) b = b

joined_balanced : (names : List (List ℕ)) (es : List Event) → Balanced names es → Balanced names (joined_runs es)
unfolding Balanced
joined_balanced [] [] b = tt
joined_balanced [] (e ∷ es) b = absurd b
joined_balanced (n ∷ names) [] b = absurd b
joined_balanced (n ∷ names) (Opens name attrs ∷ es) b = joined_balanced (name ∷ n ∷ names) es b
joined_balanced (n ∷ names) (Says cs ∷ es) b = say_balanced n names cs (joined_runs es) (joined_balanced (n ∷ names) es b)
joined_balanced (n ∷ names) (Closes ∷ es) b = joined_balanced names es b

closing_balanced : (names : List (List ℕ)) (pieces : List Piece) → Closing names pieces → Balanced names (all_said pieces)
unfolding Balanced
closing_balanced [] [] c = tt
closing_balanced [] (p ∷ pieces) c = absurd c
closing_balanced (n ∷ names) [] c = absurd c
closing_balanced (n ∷ names) (Characters text ∷ pieces) c = closing_balanced (n ∷ names) pieces c.2
closing_balanced (n ∷ names) (Referred reference ∷ pieces) c = closing_balanced (n ∷ names) pieces c.2
closing_balanced (n ∷ names) (Cdata text ∷ pieces) c = closing_balanced (n ∷ names) pieces c.2
closing_balanced (n ∷ names) (Comment text ∷ pieces) c = closing_balanced (n ∷ names) pieces c.2
closing_balanced (n ∷ names) (Instruction target text ∷ pieces) c = closing_balanced (n ∷ names) pieces c.2
closing_balanced (n ∷ names) (StartTag tag ∷ pieces) c = closing_balanced (tag.name ∷ n ∷ names) pieces c.2
closing_balanced (n ∷ names) (EmptyTag tag ∷ pieces) c = closing_balanced (n ∷ names) pieces c.2
closing_balanced (n ∷ names) (EndTag name blanks ∷ pieces) c = closing_balanced names pieces c.2

tree_from : (name : List ℕ) (attrs : List (List ℕ × List ℕ)) (es : List Event) → Balanced (name ∷ []) es → (tree : Tree) × (Opens name attrs ∷ es ≡ events tree)
unfolding Forest
tree_from name attrs es b =
    let f = forest (name ∷ []) es b in
    let none : f.1 ≡ [] = f.2 in (
      record { name = name; attrs = attrs; inner = f.0 },
      ap (λ x. Opens name attrs ∷ x) (sym f.3 ∙ ap (λ x. events_of f.0 ++ Closes ∷ x) none),
    )

-- a document has a tree
pub has_tree : (root : Piece) (inner : List Piece) → IsRoot root → Closing (open_behind [] root) inner → (tree : Tree) × (joined_runs (all_said (root ∷ inner)) ≡ events tree)
unfolding Balanced
has_tree (StartTag tag) inner i c = tree_from tag.name (map pair tag.attributes) (joined_runs (all_said inner)) (joined_balanced (tag.name ∷ []) (all_said inner) (closing_balanced (tag.name ∷ []) inner c))
has_tree (EmptyTag tag) [] i c = tree_from tag.name (map pair tag.attributes) (Closes ∷ []) tt
has_tree (EmptyTag tag) (p ∷ inner) i c = absurd c
has_tree _ inner i c = absurd i
