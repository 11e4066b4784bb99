-- The encoding of a relay of which one list or one job is changed is the encoding with that part changed. Assumes nothing.
use mathlib.Core.Path.{◌≡◌, refl, sym, ap, ◌∙◌}
use mathlib.Core.List.{List, [], ◌∷◌, ◌++◌, map, append_assoc}
use Prim.Native.Nat.{ℕ, zero, suc, ◌+◌, ◌-◌, ◌*◌, ◌≤◌, ◌<◌}
use native.Mathlib.Nat.{suc-mul, mul_comm, mul-le-mul_right}
use native.Mathlib.Omega.{arith}
use borrow.Rule.Slice.PartMut.{put_mid}
use lib.ListN.{length, take, drop, get_or, set, replicate, length-append, length-map, length-set, length-drop}
use lib.Seq.{take-append-le, drop-append-le, take-append-add, drop-append-add, drop-drop, set-append_left, map-set_same}
use lib.Ieee.{Float}
use Rattle.rules.specs.declared.Neighbor.{Neighbor}
use Rattle.rules.specs.Loops.{put_part}
use Rattle.rules.specs.Distance.{zero32}
use Rattle.rules.specs.Relay.{Job, Relay, no_job}
use Rattle.rules.specs.Places.{padded}
use Rattle.rules.specs.RelayPlaces.{room_words, room_floats, lengths_of, job_words, jobs_words, jobs_floats, relay_state, relay_state_floats}
use Rattle.encoded.specs.Words.{joined, Short}
use Rattle.encoded.proofs.Rows.{joined-set}
use Rattle.encoded.proofs.Lists.{word_row, float_row, room-words, room_floats_lem, word_rows, float_rows, length-room-words, length-room-floats, length-lengths}
use Rattle.encoded.proofs.Jobs.{jobs-words, job-rows, length-jobs_words, jobs-floats}
use Rattle.relay_move.specs.Moves.{words_with, floats_with, job_place}

-- ---- a part put into a list of two

module _ {A : Type 0} where
  put_front : (a v : ℕ) (xs ss ys : List A) → a + v ≤ length xs → put_mid a v (xs ++ ss) ys ≡ put_mid a v xs ys ++ ss
  put_front a v xs ss ys h =
      let d : drop a (xs ++ ss) ≡ drop a xs ++ ss = drop-append-le a xs ss (omega arith) in
      let e : drop v (drop a xs ++ ss) ≡ drop v (drop a xs) ++ ss = drop-append-le v (drop a xs) ss (simp length-drop (omega arith)) in
      rw (take-append-le a xs ss (omega arith), d, e) (sym (append_assoc (take a xs) (ys ++ drop v (drop a xs)) ss ∙ ap (λ (l : List A). take a xs ++ l) (append_assoc ys (drop v (drop a xs)) ss)))

  put_past : (a v : ℕ) (xs ss ys : List A) → put_mid (length xs + a) v (xs ++ ss) ys ≡ xs ++ put_mid a v ss ys
  put_past a v xs ss ys = rw (take-append-add xs ss a, drop-append-add xs ss a) (append_assoc xs (take a ss) (ys ++ drop v (drop a ss)))

  set_past : (xs ss : List A) (i : ℕ) (a : A) → set (xs ++ ss) (length xs + i) a ≡ xs ++ set ss i a
  set_past [] ss i a = ap (λ (j : ℕ). set ss j a) (let e : 0 + i ≡ i = omega arith in e)
  set_past (x ∷ xs) ss i a =
      ap (λ (j : ℕ). set (x ∷ (xs ++ ss)) j a) (let e : suc (length xs) + i ≡ suc (length xs + i) = omega arith in e)
      ∙ ap (λ (l : List A). x ∷ l) (set_past xs ss i a)

  put-part : (v q : ℕ) (ys xs : List A) → put_part v q ys xs ≡ put_mid (q * v) v xs ys
  unfolding put_part
  put-part v q ys xs = rw (drop-drop v (q * v) xs)

map-set : {A B : Type 0} (f : A → B) (xs : List A) (i : ℕ) (x : A) → map f (set xs i x) ≡ set (map f xs) i (f x)
map-set f [] i x = refl
map-set f (y ∷ xs) zero x = refl
map-set {A} {B} f (y ∷ xs) (suc i) x = ap (λ (l : List B). f y ∷ l) (map-set f xs i x)

pub short-set : (m : ℕ) (ls : List (List Neighbor)) (q : ℕ) (l : List Neighbor) → Short m ls → length l ≤ m → Short m (set ls q l)
short-set m [] q l S h = tt
short-set m (x ∷ ls) zero l S h = (h, S.1)
short-set m (x ∷ ls) (suc q) l S h = (S.0, short-set m ls q l S.1 h)

lengths-set : (ls : List (List Neighbor)) (q : ℕ) (l : List Neighbor) → lengths_of (set ls q l) ≡ set (lengths_of ls) q (length l)
unfolding lengths_of
lengths-set [] q l = refl
lengths-set (x ∷ ls) zero l = refl
lengths-set (x ∷ ls) (suc q) l = ap (λ (xs : List ℕ). length x ∷ xs) (lengths-set ls q l)

abbrev pub relay : List (List Neighbor) → List Job → Relay
relay ls js = record { lists = ls; jobs = js }

-- ---- one list changed

module _ (n k : ℕ) (ls : List (List Neighbor)) (js : List Job) (nodes : length ls ≡ n) (S : Short (k + 64) ls) (q : ℕ) (below : q < n) (l : List Neighbor) (h : length l ≤ k + 64) where
  inside : q * (k + 64) + (k + 64) ≤ n * (k + 64)
  inside =
      let step = suc-mul q (k + 64) in
      let within : suc q * (k + 64) ≤ n * (k + 64) = mul-le-mul_right (k + 64) below in
      omega arith

  rooms_set : room_words (k + 64) (set ls q l) ≡ put_mid (q * (k + 64)) (k + 64) (room_words (k + 64) ls) (word_row (k + 64) l)
  rooms_set =
      room-words (k + 64) (set ls q l) ∙ ap joined (map-set (word_row (k + 64)) ls q l)
      ∙ joined-set (k + 64) (map (word_row (k + 64)) ls) q (word_row (k + 64) l) (word_rows (k + 64) ls S) (let e = length-map ls (word_row (k + 64)) in omega arith)
      ∙ ap (put_part (k + 64) q (word_row (k + 64) l)) (sym (room-words (k + 64) ls)) ∙ put-part (k + 64) q (word_row (k + 64) l) (room_words (k + 64) ls)

  floats-set : room_floats (k + 64) (set ls q l) ≡ put_mid (q * (k + 64)) (k + 64) (room_floats (k + 64) ls) (float_row (k + 64) l)
  floats-set =
      room_floats_lem (k + 64) (set ls q l) ∙ ap joined (map-set (float_row (k + 64)) ls q l)
      ∙ joined-set (k + 64) (map (float_row (k + 64)) ls) q (float_row (k + 64) l) (float_rows (k + 64) ls S) (let e = length-map ls (float_row (k + 64)) in omega arith)
      ∙ ap (put_part (k + 64) q (float_row (k + 64) l)) (sym (room_floats_lem (k + 64) ls)) ∙ put-part (k + 64) q (float_row (k + 64) l) (room_floats (k + 64) ls)

  words_long : (xs : List (List Neighbor)) → length xs ≡ n → Short (k + 64) xs → length (room_words (k + 64) xs) ≡ n * (k + 64)
  words_long xs e X = length-room-words (k + 64) xs X ∙ ap (λ (i : ℕ). i * (k + 64)) e

  pub list_set : relay_state k (relay (set ls q l) js) ≡ words_with n k q l (relay_state k (relay ls js))
  unfolding relay_state
  list_set =
      let A = room_words (k + 64) ls in
      let A' = room_words (k + 64) (set ls q l) in
      let B = lengths_of ls in
      let C = padded 1024 0 (length js ∷ jobs_words js) in
      let i = inside in
      let a : length A ≡ n * (k + 64) = words_long ls nodes S in
      let a' : length A' ≡ n * (k + 64) = words_long (set ls q l) (length-set ls q l ∙ nodes) (short-set (k + 64) ls q l S h) in
      let b = length-lengths ls in
      sym (ap (λ (xs : List ℕ). set xs (n * (k + 64) + q) (length l))
      (put_front (q * (k + 64)) (k + 64) A (B ++ C) (word_row (k + 64) l) (omega arith) ∙ ap (λ (xs : List ℕ). xs ++ (B ++ C)) (sym rooms_set))
      ∙ ap (λ (j : ℕ). set (A' ++ (B ++ C)) (j + q) (length l)) (sym a')
      ∙ set_past A' (B ++ C) q (length l)
      ∙ ap (λ (xs : List ℕ). A' ++ xs) (set-append_left B C q (length l) (omega arith) ∙ ap (λ (xs : List ℕ). xs ++ C) (sym (lengths-set ls q l))))

  pub list-set-floats : relay_state_floats k (relay (set ls q l) js) ≡ floats_with k q l (relay_state_floats k (relay ls js))
  unfolding relay_state_floats
  list-set-floats =
      let A = room_floats (k + 64) ls in
      let C = padded 64 zero32 (jobs_floats js) in
      let i = inside in
      let a : length A ≡ n * (k + 64) = length-room-floats (k + 64) ls S ∙ ap (λ (i : ℕ). i * (k + 64)) nodes in
      ap (λ (xs : List Float). xs ++ C) floats-set ∙ sym (put_front (q * (k + 64)) (k + 64) A C (float_row (k + 64) l) (omega arith))

-- ---- one job changed

module _ (n k : ℕ) (ls : List (List Neighbor)) (js : List Job) (nodes : length ls ≡ n) (S : Short (k + 64) ls) (i : ℕ) (below : i < length js) (j : Job) where
  jobs-set : jobs_words (set js i j) ≡ put_mid (15 * i) 15 (jobs_words js) (job_words j)
  jobs-set =
      jobs-words (set js i j) ∙ ap joined (map-set job_words js i j)
      ∙ joined-set 15 (map job_words js) i (job_words j) (job-rows js) (let e = length-map js job_words in omega arith)
      ∙ ap (put_part 15 i (job_words j)) (sym (jobs-words js)) ∙ put-part 15 i (job_words j) (jobs_words js)
      ∙ ap (λ (a : ℕ). put_mid a 15 (jobs_words js) (job_words j)) (mul_comm i 15)

  pub job-set : relay_state k (relay ls (set js i j)) ≡ put_mid (job_place n k i) 15 (relay_state k (relay ls js)) (job_words j)
  unfolding relay_state padded
  job-set =
      let A = room_words (k + 64) ls in
      let B = lengths_of ls in
      let W = jobs_words js in
      let W' = jobs_words (set js i j) in
      let one : List ℕ = length js ∷ [] in
      let rest : List ℕ = replicate (1024 - suc (length W)) 0 in
      let X = A ++ (B ++ one) in
      let a : length A ≡ n * (k + 64) = length-room-words (k + 64) ls S ∙ ap (λ (i : ℕ). i * (k + 64)) nodes in
      let b = length-lengths ls in
      let w = length-jobs_words js in
      let w' = length-jobs_words (set js i j) in
      let e = length-set js i j in
      let w'' : length W' ≡ length W = w' ∙ ap (λ (m : ℕ). m * 15) e ∙ sym w in
      let long : length X ≡ n * (k + 64) + n + 1 = length-append A (B ++ one) ∙ ap (λ (m : ℕ). length A + m) (length-append B one) ∙ omega arith in
      let split : (xs : List ℕ) → A ++ (B ++ (length js ∷ xs)) ≡ X ++ xs = λ (xs : List ℕ). sym (append_assoc A (B ++ one) xs ∙ ap (λ (ys : List ℕ). A ++ ys) (append_assoc B one xs)) in
      let step = suc-mul i 15 in
      let within : suc i * 15 ≤ length js * 15 = mul-le-mul_right 15 below in
      ap (λ (m : ℕ). A ++ (B ++ (m ∷ (W' ++ replicate (1024 - suc (length W')) 0)))) e
      ∙ ap (λ (m : ℕ). A ++ (B ++ (length js ∷ (W' ++ replicate (1024 - suc m) 0)))) w''
      ∙ split (W' ++ rest)
      ∙ ap (λ (xs : List ℕ). X ++ (xs ++ rest)) jobs-set
      ∙ ap (λ (xs : List ℕ). X ++ xs) (sym (put_front (15 * i) 15 W rest (job_words j) (omega arith)))
      ∙ sym (put_past (15 * i) 15 X (W ++ rest) (job_words j))
      ∙ ap (λ (m : ℕ). put_mid (m + 15 * i) 15 (X ++ (W ++ rest)) (job_words j)) long
      ∙ ap (λ (xs : List ℕ). put_mid (job_place n k i) 15 xs (job_words j)) (sym (split (W ++ rest)))

  pub job-set-floats : j.distance ≡ (get_or js i no_job).distance → relay_state_floats k (relay ls (set js i j)) ≡ relay_state_floats k (relay ls js)
  unfolding relay_state_floats
  job-set-floats e =
      ap (λ (xs : List Float). room_floats (k + 64) ls ++ padded 64 zero32 xs)
      (jobs-floats (set js i j) ∙ map-set_same (λ (x : Job). x.distance) js i j no_job e ∙ sym (jobs-floats js))
