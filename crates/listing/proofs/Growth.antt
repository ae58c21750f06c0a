-- A text that lists words, and then the line of the next word, lists one word more.
use Rattle.std.proofs.Common.{◌≡◌, ℕ, suc, ◌+◌, ◌<◌, List, [], ◌∷◌, ◌++◌, length, get_or, take, sym, refl, subst, arith}
use Rattle.std.proofs.lemmas.List.{append_assoc, append-nil, length-take-le, take_more}
use Rattle.listing.specs.Listing.{Line, Lines}

lines_push : (n i : ℕ) (ws : List ℕ) (w : ℕ) (text line : List ℕ) → i ≡ n + length ws → Lines n ws text → Line i w line → Lines n (ws ++ w ∷ []) (text ++ line)
lines_push n i [] w text line e h l = rw h (line, [], sym (append-nil line), subst (λ j. Line j w line) (omega arith) l, refl)
lines_push n i (v ∷ ws) w text line e h l =
    (h.0, h.1 ++ line, rw h.2 (append_assoc h.0 h.1 line), h.3, lines_push (suc n) i ws w h.1 line (omega arith) h.4 l)

pub lines_more : (ws text line : List ℕ) (i : ℕ) → i < length ws → Lines 0 (take i ws) text → Line i (get_or ws i 0) line → Lines 0 (take (i + 1) ws) (text ++ line)
lines_more ws text line i h t l =
    rw (take_more ws i 0 h) (lines_push 0 i (take i ws) (get_or ws i 0) text line (omega (arith, length-take-le i ws)) t l)
