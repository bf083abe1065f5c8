pub mod VerdictOfLine
pub mod ReportedLines
pub mod ReportEndsEarly
