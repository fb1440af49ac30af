-- Document 01 in definitions, a file for each of its sections or for a theme of one. Step leads to all the others: it says what a call answers.
--
-- How to read them. A definition is a line with its type, `name : A → B → C` (from an A and a B to a C), and then what it is, in one line or
-- in one for each case of an argument. `f x y` is f of x and y.
--   cond t x y        x where the test t holds, else y          eqb leb ltb    =, ≤, < as tests          && || not    and, or, not
--   first_hit ((t ⇒ x) ∷ ..) y    x of the first test t that holds, else y      within a b x    a ≤ x ≤ b    x / y, x % y    quotient, remainder
--   x ∷ y ∷ []        the list of x and y                       xs ++ ys       one list and then another     low_bytes n x   x as n bytes, low first
--   s.part           a part of s; s.a.b is a part of that    λ x. e         e as a function of x          let x = e in f
-- `abbrev` and `unfoldable` tell the prover when to open a definition, and mean nothing to the reader.

-- choices, and numbers as bytes
pub mod Choice
pub mod Bytes
-- the CRC; readings; the clock; the bytes of events and frames
pub mod Signature
pub mod Reading
pub mod Clock
pub mod Frames
-- typed values; the table of saved parameters; what is signed and when it is valid; the image of the store
pub mod Values
pub mod Settings
pub mod Validity
pub mod Store
-- the state; every object and sub
pub mod Parts
pub mod Dictionary
-- what an event asks; what it changes of the saved parameters and of the store
pub mod Service
pub mod Changes
-- the services
pub mod Time
pub mod Nmt
pub mod Sdo
pub mod Lss
-- the state rules; one event, the power-on and the answers
pub mod Rules
pub mod Step
-- runs and their log, as the caller of the two calls has them too; what the log alone tells; safety pairs; the third demand; the event program
pub mod Run
pub mod History
pub mod Pairs
pub mod Demands
pub mod Program
