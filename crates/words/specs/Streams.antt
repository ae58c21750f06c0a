-- A stream of bytes as words.
use Rattle.std.specs.Prelude.{◌≡◌, ℕ, ◌/◌, ◌%◌, ◌^◌, ◌<◌, List, [], ◌∷◌, ◌++◌, length}

-- the bytes of words, of each the highest first
abbrev pub spread : List ℕ → List ℕ
spread [] = []
spread (w ∷ ws) = (w / 2 ^ 24) ∷ (w / 2 ^ 16 % 2 ^ 8) ∷ (w / 2 ^ 8 % 2 ^ 8) ∷ (w % 2 ^ 8) ∷ spread ws

-- a stream is the bytes of its whole words, and then the zero to three bytes of an unfinished one
pub record Cut (bytes words rest : List ℕ) : Type 0 where
  pub whole : bytes ≡ spread words ++ rest
  pub short : length rest < 4
