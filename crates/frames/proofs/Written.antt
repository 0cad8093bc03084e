-- From the parts that a writer puts into the buffer, one behind the other, to the frame's bytes.
use Rattle.std.proofs.Common.{◌≡◌, ℕ, ◌+◌, ◌-◌, ◌^◌, ◌<◌, ◌≤◌, ltb, List, ◌++◌, map, length, take, drop, Ok, Err, sum, Result, sym, ap, ◌∙◌, append_assoc, arith}
use borrow.Rule.Slice.PartMut.{put_mid}
use Rattle.std.proofs.lemmas.List.{length-append, length-take, length-drop, length-map, take_at, drop_at, drop-drop}
use Rattle.std.proofs.lemmas.Bool.{lt-ltb, le-ltb, cond-true, cond-false}
use Rattle.runs.specs.Bits.{bit_of, bytes_for, packed, packed_to}
use Rattle.runs.proofs.Packed.{length-packed_to, bits_of_bytes}
use Rattle.frames.specs.Format.{head_bytes, frame_bytes}
use Rattle.frames.specs.Reading.{read_shape}
use Rattle.frames.specs.Writing.{laid, room_for, map_of, gathered, in_round, key_bit, syndrome_of, disclosure_of}
use Rattle.frames.proofs.Gathered.{length-map_of, map_of-bits, length-gathered, gathered-bits}
use Rattle.frames.specs.declared.refusal.FrameRefusal.{FrameRefusal}
use Rattle.frames.specs.declared.refusal.FrameRefusal.TheVariants.{ShortBuffer}
use Rattle.frames.proofs.RoundTrip.{read_back}
use Rattle.std.proofs.lemmas.Grind.{common_steps}

module _ (bytes buffer : List ℕ) (k : ℕ) (long : length bytes ≡ k) where
  pub short_room : length buffer < k → ◌≡◌ {A = Result ℕ FrameRefusal} (Err (ShortBuffer k)) (room_for bytes buffer)
  short_room l = let e : ltb (length buffer) (length bytes) ≡ _ = lt-ltb (length buffer) (length bytes) (omega arith) in rw (e, long)

  pub short_laid : length buffer < k → buffer ≡ laid bytes buffer
  short_laid l = sym (cond-true _ _ _ (lt-ltb (length buffer) (length bytes) (omega arith)))

  pub room : k ≤ length buffer → ◌≡◌ {A = Result ℕ FrameRefusal} (Ok k) (room_for bytes buffer)
  room l = let e = le-ltb (length buffer) (length bytes) (omega arith) in rw (e, long)

  pub all_laid : k ≤ length buffer → bytes ++ drop k buffer ≡ laid bytes buffer
  all_laid l = grind (arith, common_steps, cond-false, le-ltb)

-- one part more behind what is done
put_next : (done part buffer : List ℕ) (a k : ℕ) → length done ≡ a → a + k ≤ length buffer → put_mid a k (done ++ drop a buffer) part ≡ (done ++ part) ++ drop (a + k) buffer
put_next done part buffer a k long l = grind (arith, common_steps, drop-drop, drop_at, take_at)

-- how long the part is that it has room for
part_length : (done buffer : List ℕ) (a k : ℕ) → length done ≡ a → a + k ≤ length buffer → length (take (a + k - a) (drop a (done ++ drop a buffer))) ≡ k
part_length done buffer a k long l = grind (arith, common_steps, length-append, length-drop, length-take)

-- a syndrome's bits, one to a byte
module _ (side block : ℕ) (bits : List ℕ) where
  pub syndrome-length : length (frame_bytes (syndrome_of side block bits)) ≡ 8 + bytes_for (length bits)
  unfolding frame_bytes
  syndrome-length = let p = length-packed_to (bytes_for (length (map bit_of bits))) (map bit_of bits) in let n = length-map bits bit_of in omega arith

  pub syndrome-laid : (k : ℕ) (buffer head body : List ℕ) → head ≡ head_bytes 1 side block 0 → k ≡ bytes_for (length bits) → 8 + k ≤ length buffer
      → body ≡ packed_to (length (take (8 + k - 8) (drop 8 (head ++ drop 8 buffer)))) (map bit_of bits)
      → put_mid 8 (8 + k - 8) (head ++ drop 8 buffer) body ≡ frame_bytes (syndrome_of side block bits) ++ drop (8 + k) buffer
  unfolding frame_bytes
  syndrome-laid k buffer head body h long l is = grind (arith, common_steps, length-map, part_length, put_next)

  pub syndrome_written_back : side < 2 → block < 2 ^ 32 → (n k : ℕ) (buffer head body : List ℕ) → head ≡ head_bytes 1 side block 0
      → k ≡ bytes_for (length bits) → 8 + k ≤ length buffer → body ≡ packed_to (length (take (8 + k - 8) (drop 8 (head ++ drop 8 buffer)))) (map bit_of bits)
      → read_shape n (length bits) (take (8 + k) (put_mid 8 (8 + k - 8) (head ++ drop 8 buffer) body)) ≡ Ok (syndrome_of side block bits)
  syndrome_written_back s b n k buffer head body h long l is =
      let frame = frame_bytes (syndrome_of side block bits) in
      let laid_out = syndrome-laid k buffer head body h long l is in
      let front : take (8 + k) (put_mid 8 (8 + k - 8) (head ++ drop 8 buffer) body) ≡ frame =
      ap (take (8 + k)) laid_out ∙ take_at frame (drop (8 + k) buffer) (8 + k) (omega (arith, syndrome-length)) in
      ap (read_shape n (length bits)) front
      ∙ read_back n (length bits) (syndrome_of side block bits) (s, b, length-map bits bit_of, bits_of_bytes bits)

pub ruleset syndromes = (syndrome-length, short_room, short_laid, room, all_laid, syndrome-laid)

-- what an end discloses in a round
module _ (side block round : ℕ) (rounds key : List ℕ) where
  abbrev named : List ℕ
  named = map_of (in_round round rounds) (length rounds)

  abbrev values : List ℕ
  values = gathered (in_round round rounds) (key_bit key) (length rounds)

  long-named : length named ≡ length rounds
  long-named = length-map_of (in_round round rounds) (length rounds)

  long_values : length values ≡ sum named
  long_values = length-gathered (in_round round rounds) (key_bit key) (length rounds)

  pub disclosure_length : length (frame_bytes (disclosure_of side block round rounds key)) ≡ 8 + bytes_for (length rounds) + bytes_for (sum named)
  unfolding frame_bytes
  disclosure_length = grind (arith, common_steps, length-append, length-packed_to, long-named, long_values)

  pub disclosure_laid : (k v count : ℕ) (buffer head front back : List ℕ) → head ≡ head_bytes 2 side block round → k ≡ bytes_for (length rounds)
      → count ≡ sum named → v ≡ bytes_for count → 8 + k + v ≤ length buffer
      → front ≡ packed_to (length (take (8 + k - 8) (drop 8 (head ++ drop 8 buffer)))) named
      → back ≡ packed_to (length (take (8 + k + v - (8 + k)) (drop (8 + k) (put_mid 8 (8 + k - 8) (head ++ drop 8 buffer) front)))) values
      → put_mid (8 + k) (8 + k + v - (8 + k)) (put_mid 8 (8 + k - 8) (head ++ drop 8 buffer) front) back ≡ frame_bytes (disclosure_of side block round rounds key) ++ drop (8 + k + v) buffer
  unfolding frame_bytes
  disclosure_laid k v count buffer head front back h long_k counted long_v l is_f is_b =
      let eight : length head ≡ 8 = ap length h in
      let size_f = part_length head buffer 8 k eight (omega arith) in
      let n_f = long-named in
      let whole_f : front ≡ packed named = cc in
      let count_f : 8 + k - 8 ≡ k = omega arith in
      let once : put_mid 8 (8 + k - 8) (head ++ drop 8 buffer) front ≡ (head ++ front) ++ drop (8 + k) buffer =
      ap (λ (j : ℕ). put_mid 8 j (head ++ drop 8 buffer) front) count_f ∙ put_next head front buffer 8 k eight (omega arith) in
      let long_f : length (head ++ front) ≡ 8 + k =
      length-append head front ∙ (let e = ap length whole_f in let p = length-packed_to (bytes_for (length named)) named in omega arith) in
      let size_b = part_length (head ++ front) buffer (8 + k) v long_f l in
      let n_b = long_values in
      let whole_b : back ≡ packed values = cc in
      let count_b : 8 + k + v - (8 + k) ≡ v = omega arith in
      ap (λ (x : List ℕ). put_mid (8 + k) (8 + k + v - (8 + k)) x back) once
      ∙ ap (λ (j : ℕ). put_mid (8 + k) j ((head ++ front) ++ drop (8 + k) buffer) back) count_b
      ∙ put_next (head ++ front) back buffer (8 + k) v long_f l
      ∙ ap (λ (x : List ℕ). x ++ drop (8 + k + v) buffer)
      (append_assoc head front back ∙ ap (λ (x : List ℕ). x ++ (front ++ back)) h
      ∙ ap (λ (x : List ℕ). head_bytes 2 side block round ++ (x ++ back)) whole_f
      ∙ ap (λ (x : List ℕ). head_bytes 2 side block round ++ (packed named ++ x)) whole_b)

  pub disclosure_written_back : side < 2 → block < 2 ^ 32 → 1 ≤ round → round < 2 ^ 16 → (m k v count : ℕ) (buffer head front back : List ℕ)
      → head ≡ head_bytes 2 side block round → k ≡ bytes_for (length rounds) → count ≡ sum named → v ≡ bytes_for count → 8 + k + v ≤ length buffer
      → front ≡ packed_to (length (take (8 + k - 8) (drop 8 (head ++ drop 8 buffer)))) named
      → back ≡ packed_to (length (take (8 + k + v - (8 + k)) (drop (8 + k) (put_mid 8 (8 + k - 8) (head ++ drop 8 buffer) front)))) values
      → read_shape (length rounds) m (take (8 + k + v) (put_mid (8 + k) (8 + k + v - (8 + k)) (put_mid 8 (8 + k - 8) (head ++ drop 8 buffer) front) back))
      ≡ Ok (disclosure_of side block round rounds key)
  disclosure_written_back s b later r m k v count buffer head front back h long_k counted long_v l is_f is_b =
      let frame = frame_bytes (disclosure_of side block round rounds key) in
      let laid_out = disclosure_laid k v count buffer head front back h long_k counted long_v l is_f is_b in
      let written = put_mid (8 + k) (8 + k + v - (8 + k)) (put_mid 8 (8 + k - 8) (head ++ drop 8 buffer) front) back in
      let whole : take (8 + k + v) written ≡ frame =
      ap (take (8 + k + v)) laid_out ∙ take_at frame (drop (8 + k + v) buffer) (8 + k + v) (omega (arith, disclosure_length)) in
      ap (read_shape (length rounds) m) whole
      ∙ read_back (length rounds) m (disclosure_of side block round rounds key) (
        s,
        b,
        later,
        r,
        long-named,
        map_of-bits (in_round round rounds) (length rounds),
        long_values,
        gathered-bits (in_round round rounds) (key_bit key) (λ i. omega arith) (length rounds),
      )

pub ruleset disclosures = (disclosure_length, short_room, short_laid, room, all_laid, disclosure_laid)
