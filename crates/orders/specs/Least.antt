-- "exactly the least k, by distance and then number, .. repeats counted", said of a list without a sort. Assumes nothing.
use Rattle.std.specs.Prelude.{◌≡◌, Bool, false, ◌&&◌, ◌||◌, List, [], ◌∷◌, ◌++◌, ℕ, ltb, length}
use Rattle.std.specs.Float.Ieee.{lt, eq}
use Rattle.rules.specs.declared.Neighbor.{Neighbor}
use Rattle.rules.specs.Lists.{node_of}
use Rattle.lists.specs.All.{All}
use Rattle.lists.specs.Ascending.{Perm}

-- "by distance and then number"
unfoldable pub nearer : Neighbor → Neighbor → Bool
nearer a b = lt a.distance b.distance || (eq a.distance b.distance && ltb (node_of a) (node_of b))

-- none of a list is nearer than e
abbrev pub NoneNearer : List Neighbor → Neighbor → Type 0
NoneNearer xs e = All (λ (x : Neighbor). nearer x e ≡ false) xs

-- no entry is nearer than one in front of it
abbrev pub Ordered : List Neighbor → Type 0
Ordered [] = Unit {0}
Ordered (x ∷ xs) = NoneNearer xs x × Ordered xs

pub record IsLeast (k : ℕ) (given list : List Neighbor) : Type 0 where
  -- k of those given, in order
  pub long : length list ≡ k
  pub ordered : Ordered list
  -- "repeats counted": with the rest they are what was given, each as often
  pub rest : List Neighbor
  pub all : Perm given (list ++ rest)
  -- and none of the rest is nearer than one of them
  pub none_nearer : All (NoneNearer rest) list
