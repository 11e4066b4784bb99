-- One node expanded: what it counts on, and what it leaves. Assumes nothing.
use mathlib.Core.Path.{◌≡◌, refl, sym, ap, ◌∙◌, subst}
use mathlib.Core.List.{List, [], ◌∷◌, ◌++◌}
use Prim.Native.Nat.{ℕ, suc, ◌+◌, ◌-◌, ◌*◌, ◌≤◌, ◌<◌}
use native.Mathlib.Nat.{suc-mul, mul-le-mul_right, mul-le-mul}
use native.Mathlib.Omega.{arith}
use lib.ListN.{length, take, drop, get_or, length-take, length-append}
use lib.Seq.{length-take-le, get_or-take, get_or-drop}
use lib.Ieee.{Float, nan}
use Rattle.std.specs.Prelude.{Ok, Err}
use Rattle.rules.specs.Answers.{Distance}
use Rattle.rules.specs.declared.NodeId.{NodeId}
use Rattle.rules.specs.declared.Neighbor.{Neighbor}
use Rattle.rules.specs.Loops.{part}
use Rattle.rules.specs.Lists.{entries, nodes_of}
use Rattle.rules.specs.Rows.{live_nodes, graph_row}
use Rattle.rules.specs.Search.{Walk, Going, on, unfit_at, Found, Taken, and_then, visits, take_these, row_ended, expand}
use Rattle.neighbor.specs.Holdable.{Holdable}
use Rattle.lists.specs.All.{All}
use Rattle.lists.proofs.Slices.{length-entries}
use Rattle.expand.specs.Steps.{Counted}
use Rattle.buffers.specs.Area.{area}
use Rattle.expand.specs.Areas.{best_at, found_at, seen_in, queue_in, best_in, found_in, Room, BestSound, QueueKept}
use Rattle.expand.specs.Steps.{found, found_after, Visited, taken, TakenIn}
use Rattle.expand.specs.Queue.{ones, AllBelow, QueueSound, walk_in, walk_after, SoundAfter, BestAfter, Rows, Expanded}
use Rattle.buffers.proofs.Places.{length-area}
use Rattle.expand.proofs.Near.{Near, Answers, Related, RelatedGoing, related_on, related_unfit, related_visits, take_near, best_near, farthest-held, Rising, rising_these}
use Rattle.expand.proofs.Steps.{best-long, far_read}
use Rattle.expand.proofs.Sound.{ones-most, below_at, below-live, Whenever, Grown, grown_visits, queued_these}

-- ---- the node that is taken, and its row

pub record Next (n : ℕ) (graph : List ℕ) (w takings tail : ℕ) (us : List ℕ) : Type 0 where
  pub short : tail ≤ n
  pub node : get_or us (n + takings) 0 < n
  pub queued : get_or (take tail (queue_in n us)) takings 0 ≡ get_or us (n + takings) 0
  pub inside : get_or us (n + takings) 0 * w + w ≤ length graph
  pub small : get_or us (n + takings) 0 * w ≤ 262144
  pub words : n + n + 128 ≤ length us
  pub nodes : n ≤ 4096
  pub taken : takings < tail

seen-long : (n : ℕ) (us : List ℕ) (fs : List Float) → Room n us fs → length (seen_in n us) ≡ n
seen-long n us fs room = let h = room.words in length-take-le n us (omega arith)

pub next : {n : ℕ} {graph : List ℕ} {w takings tail : ℕ} {us : List ℕ} {fs : List Float} → Room n us fs → QueueSound n us tail → Rows n graph w → n ≤ 4096 → takings < tail → Next n graph w takings tail us
next {n} {graph} {w} {takings} {tail} {us} {fs} room sound rows few h =
    let long = seen-long n us fs room in
    let most = ones-most (seen_in n us) in
    let flags = sound.few in
    let short : tail ≤ n = omega arith in
    let words = room.words in
    let area_long = length-area n n us (omega arith) in
    let tail_long = length-take-le tail (queue_in n us) (omega arith) in
    let queued : get_or (take tail (queue_in n us)) takings 0 ≡ get_or us (n + takings) 0 =
    get_or-take tail (queue_in n us) takings 0 h ∙ get_or-take n (drop n us) takings 0 (omega arith) ∙ get_or-drop n us takings 0 in
    let node : get_or us (n + takings) 0 < n = subst (λ (v : ℕ). v < n) queued (below_at n (take tail (queue_in n us)) takings sound.below (omega arith)) in
    let graph_long = rows.long in
    let step = suc-mul (get_or us (n + takings) 0) w in
    let within : suc (get_or us (n + takings) 0) * w ≤ n * w = mul-le-mul_right w node in
    let product : n * w ≤ 4096 * 64 = mul-le-mul few rows.narrow in
    record {
      short = short;
      node = node;
      queued = queued;
      inside = omega arith;
      small = omega arith;
      words = words;
      nodes = few;
      taken = h;
    }

-- its row, as the code cuts it out
pub row_is : (q w : ℕ) (graph : List ℕ) → take (q * w + w - q * w) (drop (q * w) graph) ≡ part w q graph
unfolding part
row_is q w graph = ap (λ (k : ℕ). take k (drop (q * w) graph)) (let e : q * w + w - q * w ≡ w = omega arith in e)

pub row-short : (q w : ℕ) (graph : List ℕ) → w ≤ 64 → length (take (q * w + w - q * w) (drop (q * w) graph)) ≤ 64
row-short q w graph h = simp length-take (omega arith)

-- ---- what was found leaves room in the queue

pub record FoundSound (n tail len : ℕ) (us₁ : List ℕ) (fs₁ : List Float) : Type 0 where
  pub few : tail + len ≤ ones (seen_in n us₁)
  pub most : tail + len ≤ n
  pub below : AllBelow n (nodes_of (found_in n us₁ fs₁ len))
  pub short : len ≤ 64

below-front : (n : ℕ) (es gs : List Neighbor) → AllBelow n (nodes_of (es ++ gs)) → AllBelow n (nodes_of es)
unfolding AllBelow nodes_of
below-front n [] gs b = tt
below-front n (e ∷ es) gs b = (b.0, below-front n es gs b.1)

-- what the rule finds in the row, where no distance is unfit
pub record Full (far : Float) (apart : ℕ → Distance) (vs : List ℕ) (f₀ : Found) (g : Found) : Type 0 where
  pub f : Found
  pub is : visits apart vs f₀ ≡ on f
  pub related : Related far f g

-- before the row is visited
abbrev pub begun : ℕ → List ℕ → ℕ → Found
begun n us w = record { seen = seen_in n us; entries = []; worked = w }

related_none : (far : Float) (n : ℕ) (us : List ℕ) (fs : List Float) (w : ℕ) → Related far (begun n us w) (found n us fs 0)
unfolding entries
related_none far n us fs w = record { beyond = []; seen = refl; whole = refl; near = tt; out = tt }

module _ {far : Float} {apart : ℕ → Distance} {n : ℕ} (row : List ℕ) {us us₁ : List ℕ} {fs fs₁ : List Float} (held : Holdable far) (fine : Answers apart) (w : ℕ) where
  pub full : {len : ℕ} → Visited far apart n (live_nodes n row) 0 64 us fs us₁ fs₁ (Ok len) → Full far apart (live_nodes n row) (begun n us w) (found n us₁ fs₁ len)
  unfolding found_after
  full {len} v =
      let r = related_on far (visits apart (live_nodes n row) (begun n us w)) (found n us₁ fs₁ len)
      (subst (RelatedGoing far (visits apart (live_nodes n row) (begun n us w))) (sym v.found) (related_visits far held apart fine (live_nodes n row) (begun n us w) (found n us fs 0) (related_none far n us fs w))) in
      record { f = r.0; is = r.1; related = r.2 }

  pub full_unfit : {u : NodeId} → Visited far apart n (live_nodes n row) 0 64 us fs us₁ fs₁ (Err u) → visits apart (live_nodes n row) (begun n us w) ≡ unfit_at u.0
  unfolding found_after
  full_unfit {u} v =
      related_unfit far (visits apart (live_nodes n row) (begun n us w)) u.0
      (subst (RelatedGoing far (visits apart (live_nodes n row) (begun n us w))) (sym v.found) (related_visits far held apart fine (live_nodes n row) (begun n us w) (found n us fs 0) (related_none far n us fs w)))

module _ {far : Float} {apart : ℕ → Distance} {n tail len : ℕ} {us us₁ : List ℕ} {fs fs₁ : List Float} (held : Holdable far) (fine : Answers apart) where
  pub found-sound : (row : List ℕ) → Room n us fs → tail ≤ ones (seen_in n us) → Visited far apart n (live_nodes n row) 0 64 us fs us₁ fs₁ (Ok len) → FoundSound n tail len us₁ fs₁
  unfolding Whenever nodes_of entries AllBelow Rattle.expand.specs.Steps.at_most
  found-sound row room few v =
      let whole = full row held fine 0 v in
      let f₀ : Found = record { seen = seen_in n us; entries = []; worked = 0 } in
      let start : Grown n f₀ f₀ = record { long = seen-long n us fs room; count = refl; below = tt } in
      let grown : Grown n f₀ whole.f =
      subst (Whenever (Grown n f₀)) whole.is (grown_visits apart n f₀ (live_nodes n row) f₀ (below-live n row) start) in
      let kept = v.kept in
      let words = room.words in
      let floats = room.floats in
      let wl = kept.words in
      let fl = kept.floats in
      let ul = length-area (found_at n) 64 us₁ (omega arith) in
      let dl = length-area (found_at n) 64 fs₁ (omega arith) in
      let short : len ≤ 64 = v.few in
      let long : length (found_in n us₁ fs₁ len) ≡ len = length-entries len (area (found_at n) 64 us₁) (area (found_at n) 64 fs₁) (omega arith) (omega arith) in
      let r = whole.related in
      let parts : length whole.f.entries ≡ length (found_in n us₁ fs₁ len) + length r.beyond = ap length r.whole ∙ length-append (found_in n us₁ fs₁ len) r.beyond in
      let count = grown.count in
      let flags : ones whole.f.seen ≡ ones (seen_in n us₁) = ap ones r.seen in
      let most = ones-most (seen_in n us₁) in
      let flags_long : length (seen_in n us₁) ≡ n = ap length (sym r.seen) ∙ grown.long in
      record {
        few = omega arith;
        most = omega arith;
        below = below-front n (found_in n us₁ fs₁ len) r.beyond (subst (λ (l : List Neighbor). AllBelow n (nodes_of l)) r.whole grown.below);
        short = short;
      }

-- ---- the best set, and its farthest as the code reads it

pub record Best (n : ℕ) (us : List ℕ) (fs : List Float) (m : ℕ) (far : Float) : Type 0 where
  pub held : Holdable far
  pub near : All (Near far) (best_in n us fs m)
  pub some : 1 ≤ length (best_in n us fs m)
  pub rising : Rising (best_in n us fs m)

pub best_of : {n : ℕ} {us : List ℕ} {fs : List Float} {m : ℕ} → Room n us fs → 1 ≤ m → m ≤ 64 → BestSound n us fs m → Best n us fs m (get_or fs (n + n + m - 1) nan)
best_of {n} {us} {fs} {m} room h few sound =
    let long = best-long n m us fs room few in
    let is = far_read n m us fs room h few in
    let some : 1 ≤ length (best_in n us fs m) = omega arith in
    record {
      held = subst Holdable is (farthest-held (best_in n us fs m) some sound.held);
      near = subst (λ (x : Float). All (Near x) (best_in n us fs m)) is (best_near (best_in n us fs m) some sound.held sound.rising);
      some = some;
      rising = record { held = sound.held; rising = sound.rising };
    }

-- ---- the walk after it

expand-is : (apart : ℕ → Distance) (rows : ℕ → List ℕ) (s : Walk) (vs : List ℕ) (f₀ : Found) → rows (get_or s.queue s.takings 0) ≡ vs
    → f₀ ≡ record { seen = s.seen; entries = []; worked = s.worked } → expand apart rows s ≡ and_then (visits apart vs f₀) (λ (f : Found). on (row_ended s f))
unfolding expand
expand-is apart rows s vs f₀ e g =
    ap (λ (l : List ℕ). and_then (visits apart l (record { seen = s.seen; entries = []; worked = s.worked })) (λ (f : Found). on (row_ended s f))) e
    ∙ ap (λ (a : Found). and_then (visits apart vs a) (λ (f : Found). on (row_ended s f))) (sym g)

module _ (apart : ℕ → Distance) (n : ℕ) (graph : List ℕ) (w m takings tail : ℕ) (us : List ℕ) (fs : List Float) (nx : Next n graph w takings tail us) (fine : Answers apart) where
  at_row : (worked : ℕ) (row : List ℕ) → row ≡ part w (get_or us (n + takings) 0) graph
      → expand apart (graph_row n w graph) (walk_in n us fs m tail takings worked)
      ≡ and_then (visits apart (live_nodes n row) (record { seen = seen_in n us; entries = []; worked = worked })) (λ (f : Found). on (row_ended (walk_in n us fs m tail takings worked) f))
  unfolding graph_row
  at_row worked row e =
      expand-is apart (graph_row n w graph) (walk_in n us fs m tail takings worked) (live_nodes n row) (record { seen = seen_in n us; entries = []; worked = worked })
      (ap (graph_row n w graph) nx.queued ∙ ap (live_nodes n) (sym e))
      refl

  pub expanded_unfit : {far : Float} {us₁ : List ℕ} {fs₁ : List Float} {v : NodeId} {row : List ℕ} {r : Counted} → Holdable far → row ≡ part w (get_or us (n + takings) 0) graph → r ≡ Err v
      → Visited far apart n (live_nodes n row) 0 64 us fs us₁ fs₁ r → Expanded apart n graph w m takings tail us fs us₁ fs₁ r
  unfolding walk_after SoundAfter BestAfter and_then
  expanded_unfit {far} {us₁} {fs₁} {v} {row} {r} held e f p =
      let q : Visited far apart n (live_nodes n row) 0 64 us fs us₁ fs₁ (Err v) = rw f at p in
      rw f
      (record {
        after =
            λ (worked : ℕ). (
              0,
              ap (λ (g : Going Found). and_then g (λ (f : Found). on (row_ended (walk_in n us fs m tail takings worked) f))) (sym (full_unfit row held fine worked q))
                  ∙ sym (at_row worked row e),
            );
        sound = tt;
        best = tt;
        words = q.kept.words;
        floats = q.kept.floats;
      })

  -- the best set and the queue were kept while the row was visited
  taken-kept : {us₁ : List ℕ} {fs₁ : List Float} → QueueKept n us fs us₁ fs₁ → taken n us₁ fs₁ m tail ≡ taken n us fs m tail
  taken-kept {us₁} {fs₁} k =
      ap (λ (l : List ℕ). record { best = entries m l (area (best_at n) 64 fs₁); queue = take tail (queue_in n us₁) }) k.nodes
      ∙ ap (λ (l : List Float). record { best = entries m (area (best_at n) 64 us) l; queue = take tail (queue_in n us₁) }) k.dists
      ∙ ap (λ (l : List ℕ). record { best = best_in n us fs m; queue = take tail l }) k.queue

  pub expanded : {far : Float} {us₁ us₂ : List ℕ} {fs₁ fs₂ : List Float} {row : List ℕ} {len end : ℕ} → Best n us fs m far → Room n us fs → QueueSound n us tail
      → row ≡ part w (get_or us (n + takings) 0) graph
      → Visited far apart n (live_nodes n row) 0 64 us fs us₁ fs₁ (Ok len) → TakenIn n m len tail us₁ fs₁ us₂ fs₂ end
      → Expanded apart n graph w m takings tail us fs us₂ fs₂ (Ok end)
  unfolding walk_after SoundAfter BestAfter and_then row_ended
  expanded {far} {us₁} {us₂} {fs₁} {fs₂} {row} {len} {end} best room sound e v t =
      let fine_found = found-sound best.held fine row room sound.few v in
      let near : taken n us₂ fs₂ m end ≡ take_these (found_in n us₁ fs₁ len) (taken n us fs m tail) =
      t.taken ∙ ap (take_these (found_in n us₁ fs₁ len)) (taken-kept v.kept) in
      record {
        after = λ (worked : ℕ). ((full row best.held fine worked v).f.worked, after worked (full row best.held fine worked v) near);
        sound = sound_now fine_found near;
        best = best_now (full row best.held fine 0 v) near;
        words = t.kept.words ∙ v.kept.words;
        floats = t.kept.floats ∙ v.kept.floats;
      }
    where
      after : (worked : ℕ) (whole : Full far apart (live_nodes n row) (record { seen = seen_in n us; entries = []; worked = worked }) (found n us₁ fs₁ len))
          → taken n us₂ fs₂ m end ≡ take_these (found_in n us₁ fs₁ len) (taken n us fs m tail)
          → on (walk_in n us₂ fs₂ m end (takings + 1) whole.f.worked) ≡ expand apart (graph_row n w graph) (walk_in n us fs m tail takings worked)
      after worked whole near =
          let r = whole.related in
          let all : taken n us₂ fs₂ m end ≡ take_these whole.f.entries (taken n us fs m tail) =
          near ∙ sym (take_near far best.held (found_in n us₁ fs₁ len) r.beyond (taken n us fs m tail) r.near r.out best.near best.some)
          ∙ ap (λ (l : List Neighbor). take_these l (taken n us fs m tail)) (sym r.whole) in
          ap (λ (l : List ℕ). on (record { seen = l; best = best_in n us₂ fs₂ m; queue = take end (queue_in n us₂); takings = takings + 1; worked = whole.f.worked }))
          (t.kept.seen ∙ sym r.seen)
          ∙ ap (λ (x : Taken). on (record { seen = whole.f.seen; best = x.best; queue = x.queue; takings = takings + 1; worked = whole.f.worked })) all
          ∙ ap (λ (k : ℕ). on (record { seen = whole.f.seen; best = (take_these whole.f.entries (taken n us fs m tail)).best; queue = (take_these whole.f.entries (taken n us fs m tail)).queue; takings = k; worked = whole.f.worked }))
          (let s : takings + 1 ≡ suc takings = omega arith in s)
          ∙ ap (λ (g : Going Found). and_then g (λ (f : Found). on (row_ended (walk_in n us fs m tail takings worked) f))) (sym whole.is)
          ∙ sym (at_row worked row e)

      best_now : Full far apart (live_nodes n row) (record { seen = seen_in n us; entries = []; worked = 0 }) (found n us₁ fs₁ len)
          → taken n us₂ fs₂ m end ≡ take_these (found_in n us₁ fs₁ len) (taken n us fs m tail) → BestSound n us₂ fs₂ m
      best_now whole near =
          let q = subst (λ (x : Taken). Rising x.best) (sym near) (rising_these far (found_in n us₁ fs₁ len) (taken n us fs m tail) whole.related.near best.rising) in
          record { held = q.held; rising = q.rising }

      sound_now : FoundSound n tail len us₁ fs₁ → taken n us₂ fs₂ m end ≡ take_these (found_in n us₁ fs₁ len) (taken n us fs m tail) → QueueSound n us₂ end
      sound_now fine whole =
          let q = queued_these n (found_in n us₁ fs₁ len) (taken n us fs m tail) fine.below sound.below in
          let few = fine.few in
          let most = t.most in
          let flags : ones (seen_in n us₂) ≡ ones (seen_in n us₁) = ap ones t.kept.seen in
          record {
            few = omega arith;
            below = subst (λ (x : Taken). AllBelow n x.queue) (sym whole) q.below;
          }
