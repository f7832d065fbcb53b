-- What holds of the whole check: demands 2 and 3, what is said of origins, the late closing up; and the laws of the line that says
-- its verdict.
pub mod Whole
pub mod Origins
pub mod Late
pub mod Verdicts
pub mod Puts
