-- The words of the chunks of a stream have its bytes, and a stream is cut in one way alone.
use Rattle.std.proofs.Common.{◌≡◌, ℕ, zero, suc, ◌*◌, map, w32, ◌/◌, ◌%◌, ◌^◌, ◌<◌, ◌≤◌, List, [], ◌∷◌, ◌++◌, length, get_or, drop, refl, ap, arith}
use Rattle.std.specs.Int.{from_be_bytes}
use Rattle.std.specs.Simd.{first_chunks}
use Rattle.words.specs.Streams.{spread}

pub spread_append : (ws vs : List ℕ) → spread (ws ++ vs) ≡ spread ws ++ spread vs
spread_append [] vs = refl
spread_append (x ∷ ws) vs = ap (λ l. (x / 2 ^ 24) ∷ (x / 2 ^ 16 % 2 ^ 8) ∷ (x / 2 ^ 8 % 2 ^ 8) ∷ (x % 2 ^ 8) ∷ l) (spread_append ws vs)

-- the bytes of the words of a stream's chunks, and then what is left over, are the stream
pub spread_chunks : (k : ℕ) (bs : List ℕ) → k * 4 ≤ length bs → ((i : ℕ) → get_or bs i 0 < 2 ^ 8) → spread (map (from_be_bytes w32) (first_chunks 4 k bs)) ++ drop (k * 4) bs ≡ bs
spread_chunks zero bs h b = refl
spread_chunks (suc k) (x ∷ y ∷ z ∷ t ∷ bs) h b =
    let w = from_be_bytes w32 (x ∷ y ∷ z ∷ t ∷ []) in
    let e0 : w / 2 ^ 24 ≡ x = omega (arith, b 0, b 1, b 2, b 3) in
    let e1 : w / 2 ^ 16 % 2 ^ 8 ≡ y = omega (arith, b 0, b 1, b 2, b 3) in
    let e2 : w / 2 ^ 8 % 2 ^ 8 ≡ z = omega (arith, b 0, b 1, b 2, b 3) in
    let e3 : w % 2 ^ 8 ≡ t = omega (arith, b 0, b 1, b 2, b 3) in
    let rest = spread_chunks k bs (omega arith) (λ i. b (suc (suc (suc (suc i))))) in
    let four : suc k * 4 ≡ suc (suc (suc (suc (k * 4)))) = omega arith in
    rw (e0, e1, e2, e3, four) (ap (λ l. x ∷ y ∷ z ∷ t ∷ l) rest)
spread_chunks (suc k) bs h b = absurd (omega arith)

one_word_of_bytes : (v w : ℕ) → v / 2 ^ 24 ≡ w / 2 ^ 24 → v / 2 ^ 16 % 2 ^ 8 ≡ w / 2 ^ 16 % 2 ^ 8 → v / 2 ^ 8 % 2 ^ 8 ≡ w / 2 ^ 8 % 2 ^ 8 → v % 2 ^ 8 ≡ w % 2 ^ 8 → v ≡ w
one_word_of_bytes v w a b c d = omega arith

pub one_cut : (ws vs rs ts : List ℕ) → spread ws ++ rs ≡ spread vs ++ ts → length rs < 4 → length ts < 4 → (ws ≡ vs) × (rs ≡ ts)
one_cut [] [] rs ts e h g = (refl, e)
one_cut [] (v ∷ vs) rs ts e h g = absurd (omega (arith, ap length e))
one_cut (w ∷ ws) [] rs ts e h g = absurd (omega (arith, ap length e))
one_cut (w ∷ ws) (v ∷ vs) rs ts e h g =
    let a : w / 2 ^ 24 ≡ v / 2 ^ 24 = cc in
    let b : w / 2 ^ 16 % 2 ^ 8 ≡ v / 2 ^ 16 % 2 ^ 8 = cc in
    let c : w / 2 ^ 8 % 2 ^ 8 ≡ v / 2 ^ 8 % 2 ^ 8 = cc in
    let d : w % 2 ^ 8 ≡ v % 2 ^ 8 = cc in
    let rest : spread ws ++ rs ≡ spread vs ++ ts = cc in
    let same = one_cut ws vs rs ts rest h g in
    let first = one_word_of_bytes w v a b c d in
    let tails = same.0 in
    let whole : w ∷ ws ≡ v ∷ vs = cc in
    (whole, same.1)
