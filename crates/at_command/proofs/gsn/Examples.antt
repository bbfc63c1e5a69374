-- Numbers of equipment, computed: the worked example of TS 23.003, annex B, with its check digit, with another, and with two digits of version in its
-- place; and one digit too few or too many.
use mathlib.Core.Path.{◌≡◌, refl}
use mathlib.Core.Bool.{true, false}
use Rattle.text.specs.Bytes.{bytes}
use Rattle.text.specs.Reading.{read, refused, only, either}
use Rattle.at_command.specs.Gsn.{whole, check_digit, imei_text}

pub annex_b : check_digit (bytes "26053179311383") ≡ 7
annex_b = refl

pub annex_b_imei : imei_text (bytes "260531793113837") ≡ read (whole 15 false)
unfolding imei_text only either
annex_b_imei = refl

pub annex_b_other : imei_text (bytes "260531793113838") ≡ refused 3
unfolding imei_text only either
annex_b_other = refl

pub annex_b_version : imei_text (bytes "2605317931138300") ≡ read (whole 16 true)
unfolding imei_text only either
annex_b_version = refl

pub fourteen_digits_lem : imei_text (bytes "26053179311383") ≡ refused 3
unfolding imei_text only either
fourteen_digits_lem = refl

pub seventeen_digits : imei_text (bytes "26053179311383700") ≡ refused 3
unfolding imei_text only either
seventeen_digits = refl
