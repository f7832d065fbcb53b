-- `text::writing::put_digits`: the number is the measure, since a tenth of it is less.
use Rattle.text.proofs.writing.+put_digits.Given as goal

abbrev pub decreases-put_digits : goal.decreases-put_digits
decreases-put_digits l = l.n
