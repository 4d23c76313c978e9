-- What a reader of a form answers where a reader that it calls found a bad field.
use Rattle.std.proofs.Common.{◌+◌, ◌≡◌, List, Result, IfErr}
use Rattle.std.specs.Result.{IsErrAnd}
use Rattle.std.proofs.lemmas.Result.{err_from_is_err_and}
use Rattle.wire_values.specs.Wanted.{Wanted}
use Rattle.wire_cursor.specs.Shape.{Place, Stops, IsBad}
use Rattle.wire_cursor.specs.declared.cursor.BadField.{BadField}

pub stops_out : {T : Type 0} {ws : List Wanted} {a : Place} (r : Result T BadField) (q : BadField)
    → IsErrAnd r (λ e. e ≡ q) → Stops ws a (q.before + 1) → IfErr r (λ b. Stops ws a (b.before + 1))
stops_out r q e h = let p = err_from_is_err_and r e in rw (p.1, p.2) h

pub bad_out : {T : Type 0} {ws : List Wanted} {a : Place} (r : Result T BadField) (q : BadField)
    → IsErrAnd r (λ e. e ≡ q) → IsBad ws a (q.before + 1) → IfErr r (λ b. IsBad ws a (b.before + 1))
bad_out r q e h = let p = err_from_is_err_and r e in rw (p.1, p.2) h
