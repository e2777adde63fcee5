-- Spelled tokens, written one behind the other anywhere in a text, are read as these: each is a token by itself, and what stands behind it
-- may follow it. Assumes nothing.
use mathlib.Core.Path.{◌≡◌, sym, subst, ap, ◌∙◌}
use mathlib.Core.Bool.{true}
use mathlib.Core.List.{List, [], ◌∷◌, ◌++◌, append_assoc, append-nil}
use Prim.Native.Nat.{ℕ, ◌+◌, ◌≤◌}
use native.Mathlib.Omega.{arith}
use lib.ListN.{length, drop, length-append}
use Rattle.rules.specs.Class.{codes}
use Rattle.rules.proofs.Bools.{clash}
use Rattle.rules.proofs.Plain.{second_stands}
use Rattle.lexicon.specs.declared.Kind.{Kind}
use Rattle.lexicon.specs.declared.Token as Token
use Rattle.lexicon.specs.declared.Next.TheVariants as Next
use Rattle.lexicon.specs.Token.{head_word, Is, Bad, Comes}
use Rattle.lexicon.proofs.Unique.{token_forward}
use Rattle.lexicon.proofs.Pieces.{token_within}
use Rattle.grammar.specs.Tokens
use Rattle.grammar.specs.Tokens.{Class, Tok, tok, class_kind, atom, text, names, round, curly, square, mark, later, spelled}
use Rattle.reading.specs.Tokens.{Follow, nothing, next}
use Rattle.reading.proofs.Rows.{pick, comes_forward, row_forward}
use Rattle.form.specs.Bare.{bare}
use Rattle.form.specs.Spell.{Spelt, bytes_of, mark_bytes}
use Rattle.form.proofs.Formed.{Formed}
use Rattle.form.proofs.Separate.{inky, After, comes_there}

-- the bytes that a token of a class is spelled with, from those where it stands
abbrev pub own : Class → List ℕ → List ℕ
own (atom a) b = bare b
own (text (spelled Tokens.quoted)) b = bare b
own (text (spelled Tokens.word)) b = b
own (text (spelled Tokens.code_point_of)) b = b
own (text (Tokens.head_word h)) b = codes (head_word h)
own names b = codes "::"
own round b = codes "("
own curly b = codes "{"
own square b = codes "["
own (mark m) b = mark_bytes m
own later b = b

-- a spelled token that is by itself a token of its class, not bad, a literal without blanks, well-formed
pub record Lone (w : Spelt) : Type 0 where
  pub kind : Kind
  pub class_is : class_kind kind ≡ w.class
  pub is : Is w.bytes kind 0 (length w.bytes)
  pub sound : Bad w.bytes kind 0 (length w.bytes) → ⊥
  pub inked : inky kind w.bytes ≡ true
  pub formed : Formed w.bytes
  pub stays : own w.class w.bytes ≡ w.bytes

-- the tokens, the first at p, and where the last ends
abbrev pub toks : ℕ → List Spelt → List Tok
toks p [] = []
toks p (w ∷ ws) = tok w.class (record { first = p; end = p + length w.bytes }) ∷ toks (p + length w.bytes) ws

abbrev pub end_of : ℕ → List Spelt → ℕ
end_of p [] = p
end_of p (w ∷ ws) = end_of (p + length w.bytes) ws

pub end_is : (ws : List Spelt) (p : ℕ) → end_of p ws ≡ p + length (bytes_of ws)
end_is [] p = omega arith
end_is (w ∷ ws) p = end_is ws (p + length w.bytes) ∙ omega (arith, length-append w.bytes (bytes_of ws))

-- spelled tokens before y, each with what may stand behind it
pub data Standing (y : List ℕ) : List Spelt → Type 0 where
  done : Standing y []
  spelt : {w : Spelt} {ws : List Spelt} (l : Lone w) → After l.kind (bytes_of ws ++ y) → Standing y ws → Standing y (w ∷ ws)

module _ (text y : List ℕ) where
  pub reads : {ws : List Spelt} → Standing y ws → (p : ℕ) → drop p text ≡ bytes_of ws ++ y → Follow text p (toks p ws) (end_of p ws)
  reads done p e = nothing
  reads (spelt {w} {ws} l a s) p e =
      let c = comes_there text w.bytes (bytes_of ws ++ y) p (e ∙ append_assoc w.bytes (bytes_of ws) y) l.kind l.inked a l.is l.sound in
      let f = reads s (p + length w.bytes) (second_stands text w.bytes (bytes_of ws) p y e) in
      subst (λ (c : Class). Follow text p (tok c (record { first = p; end = p + length w.bytes }) ∷ toks (p + length w.bytes) ws)
      (end_of (p + length w.bytes) ws)) l.class_is (next c f)

-- ---- none of the tokens that are read is bad

module _ (text y : List ℕ) where
  sound_there : {ws : List Spelt} → Standing y ws → (p : ℕ) → drop p text ≡ bytes_of ws ++ y → {q : ℕ} {before : List Tok} {t : Token.Token} →
      Follow text p before q → Comes text q (Next.Token t) → t.end ≤ end_of p ws → t.bad ≡ true → ⊥
  sound_there done p e f c i b = omega (arith, row_forward text f, comes_forward text c, token_forward text c.2, i)
  sound_there (spelt {w} {ws} l a s) p e nothing c i b =
      let h = e ∙ append_assoc w.bytes (bytes_of ws) y in
      let k = comes_there text w.bytes (bytes_of ws ++ y) p h l.kind l.inked a l.is l.sound in
      clash b (ap (λ (x : Token.Token). x.bad) (pick text c k))
  sound_there (spelt {w} {ws} l a s) p e {q} (next {t = u} {ts = ts} c f) d i b =
      let h = e ∙ append_assoc w.bytes (bytes_of ws) y in
      let k = comes_there text w.bytes (bytes_of ws ++ y) p h l.kind l.inked a l.is l.sound in
      sound_there s (p + length w.bytes) (second_stands text w.bytes (bytes_of ws) p y e)
      (subst (λ (x : Token.Token). Follow text x.end ts q) (pick text c k) f) d i b

-- as the whole text
pub sound_all : (bytes : List ℕ) {ws : List Spelt} → Standing [] ws → bytes ≡ bytes_of ws → {q : ℕ} {before : List Tok} {t : Token.Token} →
    Follow bytes 0 before q → Comes bytes q (Next.Token t) → Bad bytes t.kind t.first t.end → ⊥
sound_all bytes {ws} s e {t = t} f c b =
    sound_there bytes [] s 0 (e ∙ sym (append-nil (bytes_of ws))) f c
    (omega (arith, token_within bytes t.kind c.2, end_is ws 0, ap length e)) (c.3.holds_true b)
