-- New and old lists gathered from a descent's state. Assumes nothing.
use Rattle.std.specs.Prelude.{◌≡◌, Bool, cond, not, ◌&&◌, List, [], ◌∷◌, ℕ, ◌+◌, ◌*◌, ◌≤◌, ◌<◌, eqb, length, take, get_or}
use Rattle.rules.specs.Calls.{descent_words}
use Rattle.rules.specs.Loops.{part, turns}
use Rattle.buffers.specs.Area.{area}
use Rattle.rules.specs.declared.Neighbor.{Neighbor}
use Rattle.rules.specs.Lists.{nodes_of}
use Rattle.rules.specs.Descent.{Renewed, renew, is_visited, list_at, new_of, old_of, drawn_after, kept_new}
use Rattle.rules.specs.DescentPlaces.{member_words}
use Rattle.lists.specs.All.{All}
use Rattle.visits.specs.Marks.{Holds}
use Rattle.meets.specs.Meets.{marks_at}

-- an entry that is filled, and whose pair is visited, or is not
unfoldable pub taken : Bool → ℕ → ℕ → List Bool → ℕ → Bool
taken visited n i flags v = not (eqb v n) && cond visited (is_visited n i v flags) (not (is_visited n i v flags))

-- those of a list
unfoldable pub chosen : Bool → ℕ → ℕ → List Bool → List ℕ → List ℕ
chosen visited n i flags [] = []
chosen visited n i flags (v ∷ vs) = cond (taken visited n i flags v) (v ∷ chosen visited n i flags vs) (chosen visited n i flags vs)

-- the words of a state that holds n lists of k nodes
pub record Lists (n k : ℕ) (us : List ℕ) : Type 0 where
  pub few : n ≤ 1024
  pub some : 1 ≤ k
  pub narrow : k ≤ 64
  pub words : length us ≡ descent_words n k

-- the first r of out
pub record Gathered (n k i : ℕ) (visited : Bool) (us out : List ℕ) (r : ℕ) : Type 0 where
  pub list : (flags : List Bool) → Holds (marks_at n k) n flags us → All (λ (v : ℕ). v ≤ n) (part k i us) → take r out ≡ chosen visited n i flags (part k i us)
  pub long : length out ≡ 64
  pub most : r ≤ k

-- what a state holds while contexts are renewed: flags, and lists whose nodes are at most n
pub record Source (n k : ℕ) (flags : List Bool) (lists : List (List Neighbor)) (us : List ℕ) : Type 0 where
  pub marks : Holds (marks_at n k) n flags us
  pub nodes : (i : ℕ) → i < n → nodes_of (list_at lists i) ≡ part k i us
  pub below : (i : ℕ) → i < n → All (λ (v : ℕ). v ≤ n) (part k i us)

-- node i's new list in its 65 words, whatever the state holds
pub record NewPut (draws : List ℕ) (n k s i : ℕ) (us : List ℕ) (total at : ℕ) (found dst : List ℕ) (total' at' : ℕ) : Type 0 where
  pub list : (flags : List Bool) (lists : List (List Neighbor)) → Source n k flags lists us → dst ≡ member_words (kept_new draws s at (new_of n i flags (list_at lists i)))
  pub totalled : (flags : List Bool) (lists : List (List Neighbor)) → Source n k flags lists us → total' ≡ total + length (new_of n i flags (list_at lists i))
  pub drawn : (flags : List Bool) (lists : List (List Neighbor)) → Source n k flags lists us → at' ≡ drawn_after s at (new_of n i flags (list_at lists i))
  pub found_long : length found ≡ 64
  pub dst_long : length dst ≡ 65
  pub most : total' ≤ total + k
  pub last : at' ≤ at + k

pub record OldPut (n k i : ℕ) (us found dst : List ℕ) : Type 0 where
  pub list : (flags : List Bool) (lists : List (List Neighbor)) → Source n k flags lists us → dst ≡ member_words (old_of n i flags (list_at lists i))
  pub found_long : length found ≡ 64
  pub dst_long : length dst ≡ 65

-- what the rulebook has after the first i nodes
abbrev pub renewed_to : List ℕ → ℕ → ℕ → List Bool → List (List Neighbor) → ℕ → Renewed
renewed_to draws n s flags lists i = turns (renew draws n s flags lists) i (record { news = []; olds = []; total = 0; at = 0 })

-- the same in contexts of 260 words, whatever the state holds
pub record RenewedIn (r : Renewed) (contexts : List ℕ) (total at i : ℕ) : Type 0 where
  pub totalled : total ≡ r.total
  pub drawn : at ≡ r.at
  pub new : (j : ℕ) → j < i → area (260 * j) 65 contexts ≡ member_words (get_or r.news j [])
  pub old : (j : ℕ) → j < i → area (260 * j + 65) 65 contexts ≡ member_words (get_or r.olds j [])

pub record Renews (draws : List ℕ) (n k s : ℕ) (us contexts contexts' : List ℕ) (total at i : ℕ) : Type 0 where
  pub held : (flags : List Bool) (lists : List (List Neighbor)) → Source n k flags lists us → RenewedIn (renewed_to draws n s flags lists i) contexts' total at i
  pub long : length contexts' ≡ length contexts
  pub most : total ≤ i * k
  pub last : at ≤ i * k
