-- What stands at one place of a line.
use Rattle.std.specs.Prelude.{◌≡◌, ℕ, ◌+◌, true, ◌&&◌, ◌==◌, if◌then◌else◌, List, slice_index, Option, Some, None}
use Rattle.std.specs.Str.{IsCharBoundary}
use Rattle.pc_token.specs.declared.token.Kind.{Kind}
use Rattle.pc_token.specs.declared.token.Kind.TheVariants.{Equal, NotEqual, Less, LessEqual, Greater, GreaterEqual, Not, And, Or, Arrow, DoubleArrow, Open, Close, Comma, Colon, Dot, Range, Plus, Minus}
use Rattle.pc_token.specs.declared.token.Piece.{Piece}
use Rattle.pc_token.specs.declared.token.Piece.TheVariants as piece
use Rattle.pc_token.specs.Token.{is_blank, IsTokenOf, StartsLongNumber, StartsNoToken}

-- what stands at a place of a line
abbrev pub IsPieceAt : List ℕ → ℕ → Piece → Type 0
IsPieceAt line at piece.Blank = (is_blank (slice_index line at) ≡ true) × IsCharBoundary line (at + 1)
IsPieceAt line at (piece.Token t) = (t.start ≡ at) × IsTokenOf line t
IsPieceAt line at piece.LongNumber = StartsLongNumber line at
IsPieceAt line at piece.NoToken = StartsNoToken line at

-- the longest sign that the three bytes begin with
abbrev pub sign_of : ℕ → ℕ → ℕ → Option Kind
sign_of a b c =
    if a == 61 then Some Equal
    else (if a == 33 then (if b == 61 then Some NotEqual else Some Not)
    else (if a == 60 then (if b == 61 then Some LessEqual else (if (b == 45) && (c == 62) then Some DoubleArrow else Some Less))
    else (if a == 62 then (if b == 61 then Some GreaterEqual else Some Greater)
    else (if a == 38 then Some And
    else (if a == 124 then Some Or
    else (if a == 45 then (if b == 62 then Some Arrow else Some Minus)
    else (if a == 40 then Some Open
    else (if a == 41 then Some Close
    else (if a == 44 then Some Comma
    else (if a == 58 then Some Colon
    else (if a == 46 then (if b == 46 then Some Range else Some Dot)
    else (if a == 43 then Some Plus
    else None))))))))))))
