-- What the refusal tells: its number, and no place.
use Rattle.refusals.specs.declared.Told.{Told}
use Rattle.refusals.specs.Told.{told}
use Rattle.decoders.specs.declared.refusal.DecoderRefusal.{DecoderRefusal}
use Rattle.decoders.specs.declared.refusal.DecoderRefusal.TheVariants.{ShortBuffer}

abbrev pub decoder_told : DecoderRefusal → Told
decoder_told ShortBuffer = told 20 0
