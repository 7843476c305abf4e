-- A ring's places in its memory, and what is there.
use Rattle.std.specs.Prelude.{◌≡◌, ℕ, ◌+◌, ◌-◌, ◌<◌, ◌≤◌, [], ◌∷◌, ◌++◌, length, get_or, drop, vec_items, vec_len, slice_index_or, slice_set}
use Rattle.std.proofs.Common.{sym, ap, ◌∙◌, arith}
use Rattle.logs.specs.declared.ring.Ring.{Ring}
use Rattle.logs.specs.Window.{place_after, window}
use Rattle.logs.specs.RingModel.{ring_items}
use Rattle.logs.specs.Windows.{length_window, get_d_window, window_push, window_drop, place_below, place_within}

module _ {X : Type 0} (r : Ring X) where
  long : vec_len r.memory ≡ length (vec_items r.memory)
  long = r.memory.ok.0

  inside : r.start ≤ length (vec_items r.memory)
  inside = omega (arith, r.begins, long)

  pub ring_count : length (ring_items r) ≡ r.count
  ring_count = length_window (vec_items r.memory) r.start inside r.count (omega (arith, r.room, long))

  pub ring_room : length (ring_items r) ≤ vec_len r.memory
  ring_room = omega (arith, ring_count, r.room)

  -- p is the place in memory that is k further on than the first
  module _ (k p : ℕ) (e : p ≡ place_after (vec_len r.memory) r.start k) where
    there : p ≡ place_after (length (vec_items r.memory)) r.start k
    there = e ∙ ap (λ n. place_after n r.start k) long

    pub ring_below : k < vec_len r.memory → p < vec_len r.memory
    ring_below h = omega (arith, e, place_below (vec_len r.memory) r.start k r.begins h)

    pub ring_within : k ≤ vec_len r.memory → p ≤ vec_len r.memory
    ring_within h = omega (arith, e, place_within (vec_len r.memory) r.start k r.begins h)

    pub ring_at : (d : X) → k < r.count → slice_index_or (ring_items r) k d ≡ slice_index_or (vec_items r.memory) p d
    ring_at d h = get_d_window (vec_items r.memory) r.start inside r.count k d h ∙ ap (λ n. get_or (vec_items r.memory) n d) (sym there)

    pub ring_pushed : (x : X) → k ≡ r.count → k < vec_len r.memory →
        window (slice_set (vec_items r.memory) p x) r.start (r.count + 1) ≡ ring_items r ++ (x ∷ [])
    ring_pushed x q h =
        ap (λ n. window (slice_set (vec_items r.memory) n x) r.start (r.count + 1)) (there ∙ ap (place_after (length (vec_items r.memory)) r.start) q)
        ∙ window_push (vec_items r.memory) r.start inside r.count x (omega (arith, long))

    pub ring_dropped : k ≤ r.count → window (vec_items r.memory) p (r.count - k) ≡ drop k (ring_items r)
    ring_dropped h =
        ap (λ n. window (vec_items r.memory) n (r.count - k)) there
        ∙ window_drop (vec_items r.memory) r.start inside r.count k (omega (arith, r.room, long)) h
