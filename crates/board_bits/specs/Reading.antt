-- What a reader of the code gives, beside the reading of the definitions: its value seen by a view, or the same stop or fault.
use Rattle.std.specs.Prelude.{◌≡◌, Result, Ok, Err}

abbrev pub Gives : {X Y E : Type 0} → (X → Y) → Result X E → Result Y E → Type 0
Gives view (Ok x) read = read ≡ Ok (view x)
Gives view (Err e) read = read ≡ Err e
