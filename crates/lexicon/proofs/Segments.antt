-- Segments of a quoted Text: where one begins and ends, and a further one behind dividing space. Assumes nothing.
use mathlib.Core.Path.{◌≡◌, refl, sym, ◌∙◌}
use mathlib.Core.Bool.{true}
use mathlib.Core.List.{List, [], ◌∷◌}
use Prim.Native.Nat.{ℕ}
use Rattle.rules.specs.Class.{Class, just, ◌upto◌}
use Rattle.rules.specs.Rule.{Rule, one, ◌then◌, ◌or◌, many, opt, lit, Takes, byte, both, right, more, At}
use Rattle.rules.proofs.Classes.{apart, apart_span, includes, in_some}
use Rattle.rules.proofs.Bounds.{all_of, all_of_lem}
use Rattle.rules.proofs.Matches.{starting}
use Rattle.rules.proofs.Chains.{Single, join}
use Rattle.rules.proofs.Closed.{closed_single}
use Rattle.rules.proofs.Ways.{never}
use Rattle.lexicon.specs.Space.{blank, sp, Skips}
use Rattle.lexicon.specs.Literals.{unescaped, escape, content, segment}
use Rattle.lexicon.specs.Bad.{BadSegment}
use Rattle.lexicon.proofs.Spaces.{byte_single, landed, skips_same}

abbrev pub quote : Class
quote = just 0x22

abbrev pub not_quote : Class
not_quote = 0x00 upto 0x21 ∷ 0x23 upto 0xFF ∷ []

abbrev pub further : Rule
further = opt sp then segment

pub quote_not : never quote (one not_quote) ≡ true
unfolding never apart apart_span
quote_not = refl

pub quote_blank : never quote blank ≡ true
unfolding never apart apart_span
quote_blank = refl

pub content_bytes : all_of not_quote content ≡ true
unfolding includes in_some
content_bytes = refl

module _ (text : List ℕ) where
  pub segment_begins : {i j : ℕ} → Takes text segment i j → At text quote i
  segment_begins (both (byte a e) t) = a

  -- it ends at the first quote behind the one that opens it
  pub segment_single : Single text segment
  segment_single = record { same = go }
    where
      end : Single text (many (one not_quote) then one quote)
      end = closed_single (one not_quote) quote (byte_single not_quote) quote_not

      rest : {i j : ℕ} → Takes text (content then lit "\"") i j → Takes text (many (one not_quote) then one quote) i j
      rest (both u v) = both (all_of_lem not_quote u content_bytes) v

      go : {i j k : ℕ} → Takes text segment i j → Takes text segment i k → j ≡ k
      go (both (byte a e) u) (both (byte b f) v) = end.same (rest u) (rest (starting (f ∙ sym e) v))

  -- dividing space before a segment ends where all of it ends
  pub space_ends : {i u s k : ℕ} → Takes text (opt sp) i u → Takes text segment u k → Skips text i s → u ≡ s
  space_ends p t y = skips_same (landed quote quote_blank p (segment_begins t)) y

  pub further_rest : {i s k : ℕ} → Skips text i s → Takes text further i k → Takes text segment s k
  further_rest y (both p t) = starting (space_ends p t y) t

  pub further_single : Single text further
  further_single = record { same = go }
    where
      go : {i j k : ℕ} → Takes text further i j → Takes text further i k → j ≡ k
      go (both p t) u = segment_single.same t (further_rest (landed quote quote_blank p (segment_begins t)) u)

  -- a bad segment is one
  pub bad_takes : {i j : ℕ} → BadSegment text i j → Takes text segment i j
  bad_takes b = go b.before (join b.content.before (more b.content.match b.content.behind)) b.behind
    where
      go : {i s e j : ℕ} → Takes text (lit "\"\\") i s → Takes text (many (unescaped or escape)) s e → Takes text (lit "\"") e j → Takes text segment i j
      go (both q w) t z = both q (both (right (both w t)) z)
