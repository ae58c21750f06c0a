-- A text of replies grows line by line, and after the last line replies to them all.
use Rattle.std.proofs.Common.{◌≡◌, ℕ, List, [], ◌∷◌, ◌++◌, refl}
use Rattle.std.proofs.lemmas.List.{append_assoc, append-nil}
use Rattle.answering.specs.Replies.{Lines, Printed, RepliedAll}

-- whatever replies to the lines that are left, the replies so far and it reply to the text
abbrev pub Ahead : List ℕ → List (List ℕ) → List ℕ → Type 0
Ahead text left replies = (t : List ℕ) → Lines left t → RepliedAll text (replies ++ t)

pub ahead_more : (text : List ℕ) (left more : List (List ℕ)) (line replies longer first piece : List ℕ) → left ≡ line ∷ more → Printed line first → piece ≡ first → longer ≡ replies ++ piece → Ahead text left replies → Ahead text more longer
unfolding Lines
ahead_more text left more line replies longer first piece e r p q h t m =
    let g : Lines left (first ++ t) = rw e (first, t, refl, r, m) in
    rw q (rw p (rw (append_assoc replies first t) (h (first ++ t) g)))

pub ahead_all : (text : List ℕ) (left : List (List ℕ)) (replies : List ℕ) → left ≡ [] → Ahead text left replies → RepliedAll text replies
unfolding Lines
ahead_all text left replies e h =
    let none : Lines left [] = rw e refl in
    rw append-nil at (h [] none)
