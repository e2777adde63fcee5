-- `text_value::value::characters` meets its contract. Assumes nothing.
use Rattle.text_value.proofs.Texts.{shaped_as, has_quoted, wrote_quoted, wrote_word, code_fits, wrote_code}
use Rattle.text_value.proofs.value.characters.Goals as goal

pub quoted-requires : goal.quoted-requires
quoted-requires c = has_quoted _ (shaped_as _ c.in-Quoted.is c.requires)

pub encode-requires : goal.encode-requires
encode-requires c = code_fits _ (shaped_as _ c.in-CodePoint.is c.requires) c.code.ensures

pub returns-in-Quoted : goal.returns-in-Quoted
returns-in-Quoted c = wrote_quoted _ (shaped_as _ c.in-Quoted.is c.requires) c.quoted.ensures

pub returns-in-Word : goal.returns-in-Word
returns-in-Word c = wrote_word _ (shaped_as _ c.in-Word.is c.requires) c.copy.ensures

pub returns-in-CodePoint : goal.returns-in-CodePoint
returns-in-CodePoint c = wrote_code _ (shaped_as _ c.in-CodePoint.is c.requires) c.code.ensures c.encode.ensures
