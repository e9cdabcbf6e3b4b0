-- Which classes conform to two classes that have keys, while it is found: classes are marked with the class that has a key, from there
-- down.
use Rattle.std.specs.Prelude.{◌≡◌, ◌≢◌, ◌<◌, ◌+◌, ◌++◌, ℕ, Bool, false, not, nat_eq, List, [], ◌∷◌, Option, None, Some, set, length, slice_index_or, Contains, if◌then◌else◌}
use Rattle.std.specs.List.{flat_map}
use Rattle.mof_metamodel.specs.declared.desc.MetaDesc.{MetaDesc}
use Rattle.mof_metamodel.specs.Metamodels.{class_count, supers_of, Conforms}
use Rattle.qv_syntax.specs.declared.program.Key.{Key}
use Rattle.call_graph.specs.Graphs.{Graph, neighbours}
use Rattle.enforcement_rules.specs.Edges.{Edge, edges_to}

-- ---- the classes below each

-- an edge leads from each superclass that one of the first so many classes writes to that class
pub record AreBelowEdges (desc : MetaDesc) (count : ℕ) (edges : List Edge) : Type 0 where
  pub there : (c d : ℕ) → c < count → Contains (supers_of desc c) d → Contains edges (d, c)
  pub only : (c d : ℕ) → Contains edges (d, c) → (c < count) × Contains (supers_of desc c) d

-- each class leads to those that write it as a superclass
pub record AreBelow (desc : MetaDesc) (below : Graph) : Type 0 where
  pub long : length below ≡ class_count desc
  pub there : (c d : ℕ) → Contains (supers_of desc c) d → Contains (neighbours below d) c
  pub only : (c d : ℕ) → Contains (neighbours below d) c → (c < class_count desc) × Contains (supers_of desc c) d

-- ---- the classes that have keys

abbrev pub keyed_class : ℕ → Key → List ℕ
keyed_class meta key = if nat_eq key.meta meta then key.class.0 ∷ [] else []

abbrev pub keyed_classes : ℕ → List Key → List ℕ
keyed_classes meta keys = flat_map (keyed_class meta) keys

abbrev pub own_pair : ℕ → List Edge
own_pair k = (k, k) ∷ []

-- each with itself
abbrev pub own_pairs : List ℕ → List Edge
own_pairs keyed = flat_map own_pair keyed

-- ---- marks

abbrev pub Marks : Type 0
Marks = List (Option ℕ)

abbrev pub mark_at : Marks → ℕ → Option ℕ
mark_at marks c = slice_index_or marks c None

-- what is made of the mark of a class, of what is pending, and whether the class has another mark
abbrev pub marked : Marks → ℕ → ℕ → Option ℕ → Marks
marked marks c k None = set marks c (Some k)
marked marks c k (Some other) = marks

abbrev pub more_pending : Graph → List Edge → ℕ → ℕ → Option ℕ → List Edge
more_pending below pending c k None = pending ++ edges_to k (neighbours below c)
more_pending below pending c k (Some other) = pending

abbrev pub has_other : ℕ → Option ℕ → Bool
has_other k None = false
has_other k (Some other) = not (nat_eq other k)

-- the numbers name what is there
pub record IsMarkable (below : Graph) (marks : Marks) (pending : List Edge) : Type 0 where
  pub long : length below ≡ length marks
  pub waiting : (p : Edge) → Contains pending p → p.0 < length marks
  pub below_within : (v w : ℕ) → Contains (neighbours below v) w → w < length marks

-- the class is marked with the one that has a key, or is to be
pub data IsTold (marks : Marks) (pending : List Edge) (c k : ℕ) : Type 0 where
  by_mark : mark_at marks c ≡ Some k → IsTold marks pending c k
  waits : Contains pending (c, k) → IsTold marks pending c k

pub record IsMarking (desc : MetaDesc) (keyed : List ℕ) (marks : Marks) (pending : List Edge) : Type 0 where
  pub long : length marks ≡ class_count desc
  pub sound : (c k : ℕ) → mark_at marks c ≡ Some k → Contains keyed k × Conforms desc c k
  pub waiting : (p : Edge) → Contains pending p → Contains keyed p.1 × Conforms desc p.0 p.1
  pub own : (k : ℕ) → Contains keyed k → IsTold marks pending k k
  pub closed : (b c k : ℕ) → mark_at marks c ≡ Some k → Contains (supers_of desc b) c → IsTold marks pending b k

-- ---- what is found

pub record MeetsTwo (desc : MetaDesc) (keyed : List ℕ) : Type 0 where
  pub class : ℕ
  pub within : class < class_count desc
  pub first : ℕ
  pub first_keyed : Contains keyed first
  pub first_conforms : Conforms desc class first
  pub second : ℕ
  pub second_keyed : Contains keyed second
  pub second_conforms : Conforms desc class second
  pub two : first ≢ second

-- ---- what is left to do: what is pending, and what comes from the classes that aren't marked

abbrev pub open_row : Option ℕ → List ℕ → ℕ
open_row None row = length row
open_row (Some k) row = 0

abbrev pub open_rows : Marks → Graph → ℕ
open_rows [] below = 0
open_rows (mark ∷ marks) [] = 0
open_rows (mark ∷ marks) (row ∷ below) = open_row mark row + open_rows marks below

abbrev pub weight : Graph → Marks → List Edge → ℕ
weight below marks pending = length pending + open_rows marks below
