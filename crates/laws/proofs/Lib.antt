-- Theorems over the definitions of `model`, and over nothing else: no code is looked at here.

-- tests, bytes and values: encoding and decoding are inverse
pub mod Tests
pub mod Bytes
pub mod Values
-- the store: one image for each choice of records and values; what is saved and loaded again is what was in force
pub mod Image
pub mod Parameters
pub mod Saving
pub mod Loading
pub mod OneValue
-- what a service may change, and what a change does
pub mod Allowed
pub mod Effects
-- at most four frames; the state rules are kept; the store stays 64 bytes
pub mod Count
pub mod Sound
pub mod CoreRules
pub mod RulesKept
pub mod StoreSize
-- the history of every saved parameter and of the addresses, from the bus log alone
pub mod LookBack
pub mod Deeds
pub mod History
-- safety pairs
pub mod Ids
pub mod Pairs
pub mod PairsInLog
-- a run is what the two calls hand back; the third demand; nothing is written by halves; one answer
pub mod Calls
pub mod Demands
pub mod HalfWrites
pub mod OneAnswer
-- wrong nodes, and the run that finds each out
pub mod WrongNodes
