-- What each refusal tells: its number, and the place at fault, the length that is needed or the round that differs; 0 where there is none.
use Rattle.refusals.specs.declared.Told.{Told}
use Rattle.refusals.specs.Told.{told}
use Rattle.replies.specs.declared.refusal.OpenRefusal.{OpenRefusal}
use Rattle.replies.specs.declared.refusal.SayRefusal.{SayRefusal}
use Rattle.replies.specs.declared.refusal.HearRefusal.{HearRefusal}
use Rattle.replies.specs.declared.refusal.TurnRefusal.{TurnRefusal}
use Rattle.replies.specs.declared.refusal.KeyRefusal.{KeyRefusal}
use Rattle.replies.specs.declared.refusal.CloseRefusal.{CloseRefusal}

abbrev pub open_told : OpenRefusal → Told
open_told OpenRefusal.AlreadyOpen = told 7 0
open_told OpenRefusal.WrongPlan = told 8 0
open_told (OpenRefusal.WrongKey i) = told 9 i
open_told OpenRefusal.NoMemory = told 99 0

abbrev pub say_told : SayRefusal → Told
say_told SayRefusal.NotOpen = told 10 0
say_told SayRefusal.Ahead = told 11 0
say_told (SayRefusal.ShortBuffer needed) = told 12 needed

abbrev pub hear_told : HearRefusal → Told
hear_told HearRefusal.NotOpen = told 10 0
hear_told (HearRefusal.WrongByte i) = told 13 i
hear_told HearRefusal.Foreign = told 14 0
hear_told HearRefusal.Ahead = told 15 0
hear_told (HearRefusal.Differs round) = told 16 round

abbrev pub turn_told : TurnRefusal → Told
turn_told TurnRefusal.NotOpen = told 10 0
turn_told TurnRefusal.Finished = told 17 0
turn_told TurnRefusal.NotHeard = told 18 0
turn_told TurnRefusal.OtherMatrix = told 19 0
turn_told TurnRefusal.ShortMemory = told 20 0

abbrev pub key_told : KeyRefusal → Told
key_told KeyRefusal.NotOpen = told 10 0
key_told KeyRefusal.NotSettled = told 21 0
key_told (KeyRefusal.ShortBuffer needed) = told 12 needed

abbrev pub close_told : CloseRefusal → Told
close_told CloseRefusal.NotOpen = told 10 0
